-- Laws of the sums: terms one after the other, one or four in a pass. Assumes nothing.
use Prim.Native.Nat.{ℕ, zero, suc, ◌+◌, ◌-◌, ◌*◌, ◌%◌, ◌<◌, ◌≤◌}
use mathlib.Core.Path.{◌≡◌, refl, sym, ◌∙◌, ap, fun_ext}
use mathlib.Core.Bool.{◌&&◌}
use mathlib.Core.List.{List}
use native.Mathlib.Nat.{le_antisymm}
use native.Mathlib.Omega.{arith}
use lib.Ieee.{Float, nan, binary64, add, mul}
use lib.ListN.{length, get_or, set, drop}
use lib.Seq.{get_or-drop}
use borrow.Author.Tests.{lt-ltb, le-leb, ltb-true}
use borrow.Rule.Slice.PartMut.{mid_of}
use lib.Dec.{ltb, leb}
use Rattle.model.specs.Scalar.{◌⊗◌}
use Rattle.model.specs.Matrix.{Row, Mat, column_start, view, vec, with_part}
use Rattle.model.specs.Panel.{sum_from}
use Rattle.model.proofs.Cases.{test}
use Rattle.model.proofs.Summed.{sum-append}
use Rattle.kernels.specs.Rules.{ahead, zeroed, plus_times, plus_four}
use Rattle.kernels.proofs.Laws.{vec-part}
use Rattle.kernels.proofs.Rules.{plus-four-step}
use Rattle.sums.specs.Sums.{later_row, rows_from, plus_runs, gathered, FourPre}

-- ---- the kernel: one place more

dropped : (q : ℕ) (gs : List Float) → vec (drop q gs) ≡ ahead q (vec gs)
unfolding vec ahead
dropped q gs = fun_ext λ i. get_or-drop q gs i nan ∙ ap (λ (x : ℕ). get_or gs x nan) (omega arith)

pub four-step : (f : Row) (xs gs : List Float) (from : ℕ → ℕ) (i n len : ℕ) (l : ℕ → Float) → i < n → n ≤ len → length xs ≡ len
    → vec xs ≡ with_part f 0 i (plus_runs f from (vec gs) l)
    → vec (set xs i (add binary64
    (add binary64 (add binary64 (add binary64 (get_or xs i nan) (mul binary64 (get_or gs (from 0 + i) nan) (l 0))) (mul binary64 (get_or gs (from 1 + i) nan) (l 1)))
    (mul binary64 (get_or gs (from 2 + i) nan) (l 2))) (mul binary64 (get_or gs (from 3 + i) nan) (l 3))))
    ≡ with_part f 0 (i + 1) (plus_runs f from (vec gs) l)
unfolding plus_runs
four-step f xs gs from i n len l h g e r =
    rw (← dropped (from 0) gs, ← dropped (from 1) gs, ← dropped (from 2) gs, ← dropped (from 3) gs)
    (rw (
      get_or-drop (from 0) gs i nan,
      get_or-drop (from 1) gs i nan,
      get_or-drop (from 2) gs i nan,
      get_or-drop (from 3) gs i nan,
    ) at (plus-four-step f xs (drop (from 0) gs) (drop (from 1) gs) (drop (from 2) gs) (drop (from 3) gs) i n len (l 0) (l 1) (l 2) (l 3) h g e
    (rw (← dropped (from 0) gs, ← dropped (from 1) gs, ← dropped (from 2) gs, ← dropped (from 3) gs) at r)))

pub runs_there : (n : ℕ) (from : ℕ → ℕ) (xlen ylen glen : ℕ) → FourPre n from xlen ylen glen
    → (from 0 + n ≤ glen) × (from 1 + n ≤ glen) × (from 2 + n ≤ glen) × (from 3 + n ≤ glen)
runs_there n from xlen ylen glen w = (w.columns 0 (omega arith), w.columns 1 (omega arith), w.columns 2 (omega arith), w.columns 3 (omega arith))

-- ---- one and four terms

-- what holds of the first four holds of each before the fourth
pub each-of-four : (f g : ℕ → Float) → f 0 ≡ g 0 → f 1 ≡ g 1 → f 2 ≡ g 2 → f 3 ≡ g 3 → (u : ℕ) → u < 4 → f u ≡ g u
each-of-four f g a b c d zero h = a
each-of-four f g a b c d (suc zero) h = b
each-of-four f g a b c d (suc (suc zero)) h = c
each-of-four f g a b c d (suc (suc (suc zero))) h = d
each-of-four f g a b c d (suc (suc (suc (suc u)))) h = absurd (omega arith)

-- what a kernel reads of column t of g, from row lo on
column-from : (N : ℕ) (gs : List Float) (t lo b i : ℕ) → lo + i < N → b ≡ lo + t * N → vec gs (i + b) ≡ rows_from lo (view N gs) i t
unfolding vec view rows_from
column-from N gs t lo b i h e = rw (lt-ltb (lo + i) N h) (ap (λ (x : ℕ). get_or gs x nan) (omega arith))

part_same : (x N O : Row) (n : ℕ) → ((i : ℕ) → i < n → N i ≡ O i) → with_part x 0 n N ≡ with_part x 0 n O
unfolding with_part
part_same x N O n h = fun_ext λ i. rw (le-leb 0 i (omega arith)) (test (ltb i n) (λ q. rw q (h i (ltb-true i n q))) (λ q. rw q))

pub one-term : (x y : Row) (gs : List Float) (a : Mat) (N lo n c kb t s : ℕ) (l : Float) → s ≡ column_start N t → lo + n ≤ N → l ≡ a c (kb + t)
    → y ≡ with_part x 0 n (plus_times x (vec (mid_of (lo + s) (lo + s + n - (lo + s)) gs)) l)
    → y ≡ with_part x 0 n (gathered x (rows_from lo (view N gs)) (later_row a c kb) t 1)
unfolding gathered later_row plus_times sum_from
one-term x y gs a N lo n c kb t s l at h e p =
    p ∙ part_same x _ _ n (λ i u. rw (
      e,
      vec-part (lo + s) (lo + s + n) gs i (omega arith),
      ap (vec gs) {x = lo + s + i} {y = i + (lo + s)} (omega arith),
      column-from N gs t lo (lo + s) i (omega arith) (omega arith),
    ))

pub four-terms : (x y : Row) (gs : List Float) (a : Mat) (N lo n c kb t : ℕ) (from : ℕ → ℕ) (l : ℕ → Float) → y ≡ with_part x 0 n (plus_runs x from (vec gs) l)
    → ((u : ℕ) → u < 4 → from u ≡ lo + column_start N (t + u)) → lo + n ≤ N → ((u : ℕ) → u < 4 → l u ≡ a c (kb + t + u))
    → y ≡ with_part x 0 n (gathered x (rows_from lo (view N gs)) (later_row a c kb) t 4)
unfolding gathered later_row plus_runs plus_four ahead sum_from
four-terms x y gs a N lo n c kb t from l p at h e =
    let s0 : t + 0 ≡ t = omega arith in
    let s2 : t + 1 + 1 ≡ t + 2 = omega arith in
    let s3 : t + 2 + 1 ≡ t + 3 = omega arith in
    let k0 : kb + t + 0 ≡ kb + t = omega arith in
    let k1 : kb + (t + 1) ≡ kb + t + 1 = omega arith in
    let k2 : kb + (t + 2) ≡ kb + t + 2 = omega arith in
    let k3 : kb + (t + 3) ≡ kb + t + 3 = omega arith in
    p ∙ part_same x _ _ n (λ i u. rw (
      e 0 (omega arith),
      e 1 (omega arith),
      e 2 (omega arith),
      e 3 (omega arith),
      s2,
      s3,
      k0,
      k1,
      k2,
      k3,
      column-from N gs t lo (from 0) i (omega arith) (rw s0 at (at 0 (omega arith))),
      column-from N gs (t + 1) lo (from 1) i (omega arith) (at 1 (omega arith)),
      column-from N gs (t + 2) lo (from 2) i (omega arith) (at 2 (omega arith)),
      column-from N gs (t + 3) lo (from 3) i (omega arith) (at 3 (omega arith)),
    ))

-- ---- terms after terms

gather-more : (b x y z : Row) (G : Mat) (l : Row) (lo hi s m n : ℕ) → y ≡ with_part x lo hi (gathered b G l s m)
    → z ≡ with_part y lo hi (gathered y G l (s + m) n) → z ≡ with_part x lo hi (gathered b G l s (m + n))
unfolding with_part gathered
gather-more b x y z G l lo hi s m n p q =
    q ∙ fun_ext λ i. let f : Row = λ t. G i t ⊗ l t in
    test (leb lo i && ltb i hi)
    (λ c. let e : y i ≡ sum_from f s m (b i) = ap (λ (r : Row). r i) p ∙ rw c in rw (c, e) (sym (sum-append f m n s (b i))))
    (λ c. let e : y i ≡ x i = ap (λ (r : Row). r i) p ∙ rw c in rw (c, e))

gather_none : (b : Row) (G : Mat) (l : Row) (s : ℕ) → b ≡ gathered b G l s 0
unfolding gathered sum_from
gather_none b G l s = refl

-- as the loops have it: from 0 in fours, from s in ones

part-self : (x : Row) (lo hi : ℕ) → x ≡ with_part x lo hi x
unfolding with_part
part-self x lo hi = fun_ext λ i. test (leb lo i && ltb i hi) (λ c. rw c) (λ c. rw c)

pub fours-none : (x : Row) (G : Mat) (l : Row) (lo hi : ℕ) → x ≡ with_part x lo hi (gathered x G l 0 0)
fours-none x G l lo hi = part-self x lo hi ∙ ap (λ (N : Row). with_part x lo hi N) (gather_none x G l 0)

pub fours-step : (x y z : Row) (G : Mat) (l : Row) (lo hi t : ℕ) → y ≡ with_part x lo hi (gathered x G l 0 t) → z ≡ with_part y lo hi (gathered y G l t 4)
    → z ≡ with_part x lo hi (gathered x G l 0 (t + 4))
fours-step x y z G l lo hi t p q =
    let e : t ≡ 0 + t = omega arith in
    gather-more x x y z G l lo hi 0 t 4 p (q ∙ ap (λ (s : ℕ). with_part y lo hi (gathered y G l s 4)) e)

-- the end of the whole fours is a multiple of 4 too: there t is, or after four more
pub fours-end : (x y : Row) (G : Mat) (l : Row) (lo hi t w : ℕ) → t ≤ w - w % 4 → w - w % 4 ≤ t → y ≡ with_part x lo hi (gathered x G l 0 t)
    → y ≡ with_part x lo hi (gathered x G l 0 (w - w % 4))
fours-end x y G l lo hi t w h g p = p ∙ ap (λ (k : ℕ). with_part x lo hi (gathered x G l 0 k)) (le_antisymm h g)

pub fours-last : (x y z : Row) (G : Mat) (l : Row) (lo hi t w : ℕ) → t % 4 ≡ 0 → t < w - w % 4 → w - w % 4 - t ≤ 4 → y ≡ with_part x lo hi (gathered x G l 0 t)
    → z ≡ with_part y lo hi (gathered y G l t 4) → z ≡ with_part x lo hi (gathered x G l 0 (w - w % 4))
fours-last x y z G l lo hi t w d h g p q = fours-end x z G l lo hi (t + 4) w (omega arith) (omega arith) (fours-step x y z G l lo hi t p q)

-- from +0.0
pub fours-begun : (x y z : Row) (G : Mat) (l : Row) (lo hi t : ℕ) → y ≡ with_part x lo hi zeroed → z ≡ with_part y lo hi (gathered y G l 0 t)
    → z ≡ with_part x lo hi (gathered zeroed G l 0 t)
unfolding with_part gathered
fours-begun x y z G l lo hi t p q = q ∙ rw p (fun_ext λ i. test (leb lo i && ltb i hi) (λ c. rw c) (λ c. rw c))

pub ones_none : (x : Row) (G : Mat) (l : Row) (lo hi s : ℕ) → x ≡ with_part x lo hi (gathered x G l s (s - s))
ones_none x G l lo hi s =
    let e : 0 ≡ s - s = omega arith in
    part-self x lo hi ∙ ap (λ (N : Row). with_part x lo hi N) (gather_none x G l s) ∙ ap (λ (n : ℕ). with_part x lo hi (gathered x G l s n)) e

pub ones_step : (x y z : Row) (G : Mat) (l : Row) (lo hi s t : ℕ) → s ≤ t → y ≡ with_part x lo hi (gathered x G l s (t - s))
    → z ≡ with_part y lo hi (gathered y G l t 1) → z ≡ with_part x lo hi (gathered x G l s (t + 1 - s))
ones_step x y z G l lo hi s t h p q =
    let a : t ≡ s + (t - s) = omega arith in
    let b : t - s + 1 ≡ t + 1 - s = omega arith in
    gather-more x x y z G l lo hi s (t - s) 1 p (q ∙ ap (λ (k : ℕ). with_part y lo hi (gathered y G l k 1)) a)
    ∙ ap (λ (n : ℕ). with_part x lo hi (gathered x G l s n)) b

-- fours, then ones
pub sums-whole : (x y z : Row) (G : Mat) (l : Row) (lo hi s w : ℕ) → s ≤ w → y ≡ with_part x lo hi (gathered zeroed G l 0 s)
    → z ≡ with_part y lo hi (gathered y G l s (w - s)) → z ≡ with_part x lo hi (gathered zeroed G l 0 w)
sums-whole x y z G l lo hi s w h p q =
    let a : s ≡ 0 + s = omega arith in
    let b : s + (w - s) ≡ w = omega arith in
    rw b at (gather-more zeroed x y z G l lo hi 0 s (w - s) p (q ∙ ap (λ (k : ℕ). with_part y lo hi (gathered y G l k (w - s))) a))
