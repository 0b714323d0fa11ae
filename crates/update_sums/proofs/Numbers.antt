-- Laws of the update's sums as the loops take them: v, and the sums of a part of the rows. Assumes nothing.
use mathlib.Core.Path.{◌≡◌, refl, sym, ◌∙◌, ap, fun_ext}
use mathlib.Core.Bool.{Bool, true, false}
use mathlib.Core.List.{List}
use Prim.Native.Nat.{ℕ, zero, suc, ◌+◌, ◌-◌, ◌*◌, ◌≤◌, ◌<◌}
use native.Mathlib.Omega.{arith}
use borrow.Author.Tests.{ltb-true, leb-true}
use borrow.Rule.Slice.PartMut.{mid_of}
use lib.Dec.{leb, ltb}
use lib.ListN.{length, get_or, set}
use lib.Ieee.{Float, nan}
use Rattle.model.specs.Scalar.{◌⊕◌, ◌⊗◌, zero_f}
use Rattle.model.specs.Matrix.{Row, column_start, view, vec, naturals, within, with_part}
use Rattle.model.specs.Step.{begins, ends_block}
use Rattle.model.specs.Panel.{times_d, sum_from}
use Rattle.model.proofs.Cases.{test, and_left, and_right}
use Rattle.grid.specs.Rules.{column_of, RowsPre}
use Rattle.kernels.specs.Rules.{zeroed, plus_times}
use Rattle.grid.proofs.Laws.{col-in, view-read}
use Rattle.kernels.proofs.Laws.{vec-set, with_part-in, with_part-past, with_part-step}
use Rattle.grid.proofs.Parts.{column-at}
use Rattle.model.proofs.Bytes.{bytes-paired}
use Rattle.update_sums.specs.declared.Columns.{Columns}
use Rattle.update_sums.specs.Acc.{weighed, acc_of, matrix_in, weights_in, sums_in, from_row, two_added, WeightPre, SumPre}

-- ---- v at one column: l is the row's number there; b is whether a block begins at it, g whether it is a block's second

module _ (k : Columns) (i s : ℕ) (l : Float) (e : l ≡ matrix_in k i s) (b : Bool) (h : b ≡ begins (naturals k.blocks.now) s) where
  pub weight-first : (m : Float) → b ≡ true → m ≡ matrix_in k i (s + 1) → l ⊗ vec k.d.now s ⊕ m ⊗ vec k.sub.now s ≡ weights_in k i s
  unfolding weighed times_d
  weight-first m x f = rw (← h, x, e, f)

  module _ (x : b ≡ false) (g : Bool) (j : g ≡ ends_block (naturals k.blocks.now) s) where
    pub weight-second : (a : Float) → g ≡ true → a ≡ matrix_in k i (s - 1) → a ⊗ vec k.sub.now (s - 1) ⊕ l ⊗ vec k.d.now s ≡ weights_in k i s
    unfolding weighed times_d
    weight-second a y f = rw (← h, x, ← j, y, e, f)

    pub weight-plain : g ≡ false → l ⊗ vec k.d.now s ≡ weights_in k i s
    unfolding weighed times_d
    weight-plain y = rw (← h, x, ← j, y, e)

module _ (k : Columns) (i lo hi room s : ℕ) (w : SumPre k i lo hi room) (h : s < k.columns) where
  pub sum-weight : WeightPre k i s
  sum-weight = record {
    row = w.row;
    column = col-in k.rows k.columns s (length k.panel.now) w.area h;
    pivot = omega (arith, w.pivots);
    subdiagonal = omega (arith, w.subdiagonal);
    byte = omega (arith, w.blocks);
    next = λ o. col-in k.rows k.columns (s + 1) (length k.panel.now) w.area
        (omega (arith, w.blocks, (bytes-paired k.blocks.now w.check).room s (omega (arith, w.blocks)) o));
  }

  pub sum_rows : RowsPre k.rows s lo hi (length k.panel.now)
  sum_rows = record { col = omega (arith, col-in k.rows k.columns s (length k.panel.now) w.area h, w.rows); up = w.up; rows = w.rows }

-- ---- the sums

sum-last : (f : Row) (c n : ℕ) (acc : Float) → sum_from f c (n + 1) acc ≡ sum_from f c n acc ⊕ f (c + n)
unfolding sum_from
sum-last f c zero acc = let g : c + 0 ≡ c = omega arith in rw g
sum-last f c (suc n) acc =
    let e : suc n + 1 ≡ suc (n + 1) = omega arith in
    let g : c + suc n ≡ c + 1 + n = omega arith in
    rw (e, g) (sum-last f (c + 1) n (acc ⊕ f c))

sums-one : (k : Columns) (s i r : ℕ) → sums_in k (s + 1) i r ≡ sums_in k s i r ⊕ matrix_in k r s ⊗ weights_in k i s
unfolding acc_of
sums-one k s i r =
    sum-last (λ t. matrix_in k r t ⊗ weights_in k i t) 0 s zero_f
    ∙ ap (λ (t : ℕ). sum_from (λ u. matrix_in k r u ⊗ weights_in k i u) 0 s zero_f ⊕ matrix_in k r t ⊗ weights_in k i t) (omega arith)

-- a rule for places lo up to hi, over a function that has another there
part-over : (f : Row) (lo hi : ℕ) (N O : Row) → with_part (with_part f lo hi N) lo hi O ≡ with_part f lo hi O
unfolding with_part
part-over f lo hi N O = fun_ext λ i. test (within lo hi i) (λ t. rw t) (λ t. rw t)

part_same : (f : Row) (lo hi : ℕ) (N O : Row) → ((i : ℕ) → lo ≤ i → i < hi → N i ≡ O i) → with_part f lo hi N ≡ with_part f lo hi O
unfolding with_part
part_same f lo hi N O h =
    fun_ext λ i. test (within lo hi i)
    (λ t. rw t (h i (leb-true lo i (and_left (leb lo i) (ltb i hi) t)) (ltb-true i hi (and_right (leb lo i) (ltb i hi) t))))
    (λ t. rw t)

-- a column's rows lo up to hi, as they are lent
pub add-lent : (n : ℕ) (f g : Row) (panel : List Float) (s at lo hi : ℕ) (x : Float) → at ≡ column_start n s → hi ≤ n
    → g ≡ with_part f 0 (hi - lo) (plus_times f (vec (mid_of (lo + at) (hi + at - (lo + at)) panel)) x)
    → g ≡ with_part f 0 (hi - lo) (plus_times f (from_row (column_of (view n panel) s) lo) x)
unfolding plus_times column_of from_row
add-lent n f g panel s at lo hi x b u e = e ∙ part_same f 0 (hi - lo) _ _ (λ t z l. rw (column-at n panel s at lo hi t b u l))

-- the same of two columns, of which the loop knows where in the list they begin
vec-at : (xs : List Float) (i : ℕ) → vec xs i ≡ get_or xs i nan
unfolding vec
vec-at xs i = refl

pub two-step : (panel : List Float) (a b : ℕ) (v w : Float) (f : Row) (xs : List Float) (i n len : ℕ) → i < n → n ≤ len → length xs ≡ len
    → vec xs ≡ with_part f 0 i (plus_times (plus_times f (from_row (vec panel) a) v) (from_row (vec panel) b) w)
    → vec (set xs i (get_or xs i nan ⊕ get_or panel (a + i) nan ⊗ v ⊕ get_or panel (b + i) nan ⊗ w))
    ≡ with_part f 0 (i + 1) (plus_times (plus_times f (from_row (vec panel) a) v) (from_row (vec panel) b) w)
unfolding plus_times from_row
two-step panel a b v w f xs i n len h m r e =
    let own : get_or xs i nan ≡ f i = sym (vec-at xs i) ∙ ap (λ (g : Row). g i) e ∙ with_part-past f 0 i _ i (omega arith) in
    with_part-step f (vec xs) _ 0 i _ _ (omega arith) e (rw (own, vec-at panel (a + i), vec-at panel (b + i))) (vec-set xs i _ (omega arith))

two_at : (n : ℕ) (panel : List Float) (j at lo hi i : ℕ) → at ≡ column_start n j → hi ≤ n → i < hi - lo → vec panel (lo + at + i) ≡ view n panel (lo + i) j
two_at n panel j at lo hi i b u l =
    vec-at panel (lo + at + i) ∙ ap (λ (k : ℕ). get_or panel k nan) {x = lo + at + i} {y = lo + i + at} (omega arith)
    ∙ view-read n panel (lo + i) j at b (omega arith)

pub two-end : (n : ℕ) (panel : List Float) (s at bt lo hi i : ℕ) (v w : Float) (f g : Row) → at ≡ column_start n s → bt ≡ column_start n (s + 1) → hi ≤ n
    → i ≤ hi - lo → hi - lo ≤ i → g ≡ with_part f 0 i (plus_times (plus_times f (from_row (vec panel) (lo + at)) v) (from_row (vec panel) (lo + bt)) w)
    → g ≡ with_part f 0 (hi - lo) (two_added f (view n panel) s lo v w)
unfolding two_added plus_times from_row column_of
two-end n panel s at bt lo hi i v w f g b c u l m e =
    let z : i ≡ hi - lo = omega arith in
    rw z at e ∙ part_same f 0 (hi - lo) _ _ (λ t _ h. rw (two_at n panel s at lo hi t b u h, two_at n panel (s + 1) bt lo hi t c u h))

-- adding two is adding one after the other
two-parts : (g : Row) (m : ℕ) (a b : Row) (x y : Float) → with_part g 0 m (plus_times (plus_times g a x) b y)
    ≡ with_part (with_part g 0 m (plus_times g a x)) 0 m (plus_times (with_part g 0 m (plus_times g a x)) b y)
unfolding with_part plus_times
two-parts g m a b x y = fun_ext λ i. test (within 0 m i) (λ t. rw t) (λ t. rw t)

-- rows lo up to hi of the panel, acc's number 0 for row lo
module _ (k : Columns) (i lo hi : ℕ) where
  pub sums_none : (f g : Row) → g ≡ with_part f 0 (hi - lo) zeroed → g ≡ with_part g 0 (hi - lo) (from_row (sums_in k 0 i) lo)
  unfolding from_row acc_of sum_from zeroed
  sums_none f g e = e ∙ sym (ap (λ (x : Row). with_part x 0 (hi - lo) (λ r. zero_f)) e ∙ part-over f 0 (hi - lo) (λ r. zero_f) (λ r. zero_f))

  pub sums-step : (f g h : Row) (s : ℕ) (x : Float) → x ≡ weights_in k i s
      → g ≡ with_part f 0 (hi - lo) (from_row (sums_in k s i) lo)
      → h ≡ with_part g 0 (hi - lo) (plus_times g (from_row (column_of (matrix_in k) s) lo) x)
      → h ≡ with_part f 0 (hi - lo) (from_row (sums_in k (s + 1) i) lo)
  unfolding plus_times column_of from_row
  sums-step f g h s x w e p =
      p ∙ part_same g 0 (hi - lo) _ (λ t. sums_in k (s + 1) i (lo + t)) (λ t z l.
      rw (w, sums-one k s i (lo + t))
      (ap (λ (y : Float). y ⊕ matrix_in k (lo + t) s ⊗ weights_in k i s)
      (ap (λ (q : Row). q t) e ∙ with_part-in f 0 (hi - lo) (λ r. sums_in k s i (lo + r)) t z l)))
      ∙ rw e (part-over f 0 (hi - lo) _ _)

  pub sums-two : (f g h : Row) (pair : ℕ) (x y : Float) → x ≡ weights_in k i (2 * pair) → y ≡ weights_in k i (2 * pair + 1)
      → g ≡ with_part f 0 (hi - lo) (from_row (sums_in k (2 * pair) i) lo)
      → h ≡ with_part g 0 (hi - lo) (two_added g (matrix_in k) (2 * pair) lo x y)
      → h ≡ with_part f 0 (hi - lo) (from_row (sums_in k (2 * (pair + 1)) i) lo)
  unfolding two_added
  sums-two f g h pair x y v w e p =
      let s : ℕ = 2 * pair in
      let z : s + 1 + 1 ≡ 2 * (pair + 1) = omega arith in
      rw z at (sums-step f _ h (s + 1) y w (sums-step f g _ s x v e refl) (p ∙ two-parts g (hi - lo) _ _ x y))

  -- z is what was zeroed: all columns were summed, an even number of them; or one was left, and is added
  pub sums-from : (f z h : Row) (s : ℕ) → z ≡ with_part f 0 (hi - lo) zeroed
      → h ≡ with_part z 0 (hi - lo) (from_row (sums_in k s i) lo) → h ≡ with_part f 0 (hi - lo) (from_row (sums_in k s i) lo)
  sums-from f z h s e p = p ∙ rw e (part-over f 0 (hi - lo) zeroed _)

  pub sums-even : (f z h : Row) (s : ℕ) → z ≡ with_part f 0 (hi - lo) zeroed → h ≡ with_part z 0 (hi - lo) (from_row (sums_in k s i) lo)
      → s ≡ k.columns → h ≡ with_part f 0 (hi - lo) (from_row (sums_in k k.columns i) lo)
  sums-even f z h s e p m = sums-from f z h k.columns e (rw m at p)

  pub sums-odd : (f z g h : Row) (s : ℕ) (x : Float) → z ≡ with_part f 0 (hi - lo) zeroed → g ≡ with_part z 0 (hi - lo) (from_row (sums_in k s i) lo)
      → s + 1 ≡ k.columns → x ≡ weights_in k i (k.columns - 1) → h ≡ with_part g 0 (hi - lo) (plus_times g (from_row (column_of (matrix_in k) (k.columns - 1)) lo) x)
      → h ≡ with_part f 0 (hi - lo) (from_row (sums_in k k.columns i) lo)
  sums-odd f z g h s x e p m w q =
      let l : k.columns - 1 ≡ s = omega arith in
      sums-from f z h k.columns e (rw m at (sums-step z g h s x (rw l at w) p (rw l at q)))
