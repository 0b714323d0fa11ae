-- Laws of one later column and of two: what is lent, and what they lose. Assumes nothing.
use Prim.Native.Nat.{ℕ, ◌+◌, ◌-◌, ◌*◌, ◌<◌, ◌≤◌, min, max}
use mathlib.Core.Path.{◌≡◌, refl, sym, ◌∙◌, ap, fun_ext}
use mathlib.Core.List.{List}
use native.Mathlib.Nat.{mul-le-mul_right}
use native.Mathlib.Omega.{arith}
use borrow.Author.Tests.{lt-ltb, le-ltb, le-leb, lt-leb, eq-eqb, ne_eqb, ltb-true, leb-true, leb-false}
use borrow.Rule.Slice.PartMut.{mid_of, put_mid}
use lib.Dec.{ltb, leb}
use lib.Ieee.{Float}
use lib.ListN.{length}
use Rattle.model.specs.Scalar.{◌⊖◌, ◌⊗◌, zero_f}
use Rattle.model.specs.Matrix.{Row, Mat, column_start, view, vec, with_column, with_part}
use Rattle.model.proofs.Cases.{test, cmp, no}
use Rattle.model.proofs.Summed.{sum_same}
use Rattle.grid.specs.Rules.{column_of}
use Rattle.kernels.specs.Rules.{behind, zeroed, less_each}
use Rattle.grid.proofs.Laws.{col-in}
use Rattle.kernels.proofs.Laws.{vec-part}
use Rattle.grid.proofs.Parts.{column-at, column-lent}
use Rattle.sums.specs.Sums.{later_row, rows_from, gathered}
use Rattle.deferred.specs.Columns.{column_deferred, part_deferred, PairPre, ColumnsPre, RowsPre}
use Rattle.deferred.proofs.Parts.{before-part, columns-more}

-- ---- one column less its sums

-- the column's part is lent, and the part of the sums from `from` on
pub lose-lent : (n : ℕ) (xs ys zs : List Float) (j s lo hi from : ℕ) → s ≡ column_start n j → from ≡ max lo j → n + j * n ≤ length xs → lo ≤ hi → j ≤ hi → hi ≤ n
    → length ys ≡ length (mid_of (from + s) (hi + s - (from + s)) xs)
    → vec ys ≡ with_part (vec (mid_of (from + s) (hi + s - (from + s)) xs)) 0 (hi - from)
    (less_each (vec (mid_of (from + s) (hi + s - (from + s)) xs)) (vec (mid_of (from - lo) (hi - lo - (from - lo)) zs)))
    → view n (put_mid (from + s) (hi + s - (from + s)) xs ys)
    ≡ with_column (view n xs) j (max lo j) hi (less_each (column_of (view n xs) j) (behind lo (vec zs)))
unfolding less_each column_of behind
lose-lent n xs ys zs j s lo hi from at start room u d h ly e =
    column-lent n xs ys j s from hi _ _ _ at (omega arith) (omega arith) h ly e
    (λ t g. rw (
      column-at n xs j s from hi t at h g,
      vec-part (from - lo) (hi - lo) zs t (omega arith),
      ap (vec zs) {x = from - lo + t} {y = from + t - lo} (omega arith),
    ))
    ∙ ap (λ (k : ℕ). with_column (view n xs) j k hi (λ i. view n xs i j ⊖ vec zs (i - lo))) start

-- the sums are those of the matrix A, which has the same row j in the panel's columns
module _ (A P Q G : Mat) (x y : Row) (j kb w lo m : ℕ) (row : (t : ℕ) → t < w → A j (kb + t) ≡ P j (kb + t))
    (p : y ≡ with_part x 0 m (gathered zeroed (rows_from lo G) (later_row A j kb) 0 w)) where
  sum-at : (i : ℕ) → lo ≤ i → i < lo + m → behind lo y i ≡ gathered zeroed G (later_row P j kb) 0 w i
  unfolding behind gathered rows_from later_row zeroed with_part
  sum-at i l h =
      ap (λ (f : Row). f (i - lo)) p
      ∙ rw (le-leb 0 (i - lo) (omega arith), lt-ltb (i - lo) m (omega arith))
      (sum_same _ (λ t. G i t ⊗ P j (kb + t)) w 0 0 zero_f
      (λ k g. let e : lo + (i - lo) ≡ i = omega arith in let z : 0 + k ≡ k = omega arith in rw (e, z, row k g)))

  pub column-lost : Q ≡ with_column P j (max lo j) (lo + m) (less_each (column_of P j) (behind lo y)) → Q ≡ part_deferred P G kb w j (j + 1) lo (lo + m)
  unfolding with_column part_deferred column_deferred less_each column_of
  column-lost q =
      q ∙ fun_ext λ i. fun_ext λ k.
      cmp k j
      (λ b. rw (ne_eqb k j (λ e. omega arith), lt-leb j k b))
      (λ e. rw (e, eq-eqb j j refl, le-leb j j (omega arith), lt-ltb j (j + 1) (omega arith))
      (test (leb j i)
      (λ a. let ja : j ≤ i = leb-true j i a in
      test (leb lo i)
      (λ b. let la : lo ≤ i = leb-true lo i b in
      rw (a, b, le-leb (max lo j) i (omega arith))
      (test (ltb i (lo + m)) (λ d. rw d (ap (λ (v : Float). P i j ⊖ v) (sum-at i la (ltb-true i (lo + m) d)))) (λ d. rw d)))
      (λ b. rw (a, b, lt-leb (max lo j) i (omega (arith, leb-false lo i b)))))
      (λ a. rw (a, lt-leb (max lo j) i (omega (arith, leb-false j i a))))))
      (λ b. rw (ne_eqb k j (λ e. omega arith), le-ltb k (j + 1) (omega arith), no (leb j k)))

-- ---- two columns, or one

pub one-lost : (A Q G : Mat) (x y : Row) (c e kb w lo m : ℕ) → e ≡ c → y ≡ with_part x 0 m (gathered zeroed (rows_from lo G) (later_row A c kb) 0 w)
    → Q ≡ with_column A c (max lo c) (lo + m) (less_each (column_of A c) (behind lo y)) → Q ≡ part_deferred A G kb w c (e + 1) lo (lo + m)
one-lost A Q G x y c e kb w lo m s p q = rw s (column-lost A A Q G x y c kb w lo m (λ t h. refl) p q)

-- the second one's numbers are those from before the first one changed
pub two-lost : (A R Q G : Mat) (x y u z : Row) (c e kb w lo m : ℕ) → kb + w ≤ c → (c ≤ e) × (e ≤ c + 1) → (e ≡ c → ⊥)
    → y ≡ with_part x 0 m (gathered zeroed (rows_from lo G) (later_row A c kb) 0 w)
    → z ≡ with_part u 0 m (gathered zeroed (rows_from lo G) (later_row A e kb) 0 w)
    → R ≡ with_column A c (max lo c) (lo + m) (less_each (column_of A c) (behind lo y))
    → Q ≡ with_column R e (max lo e) (lo + m) (less_each (column_of R e) (behind lo z)) → Q ≡ part_deferred A G kb w c (e + 1) lo (lo + m)
two-lost A R Q G x y u z c e kb w lo m after next apart p q r s =
    let c1 : c + 1 ≡ e = omega arith in
    let first : R ≡ part_deferred A G kb w c e lo (lo + m) = rw c1 at (one-lost A R G x y c c kb w lo m refl p r) in
    let same : (t : ℕ) → t < w → A e (kb + t) ≡ R e (kb + t) =
    λ t h. sym (ap (λ (M : Mat). M e (kb + t)) first ∙ before-part A G kb w c e lo (lo + m) e (kb + t) (omega arith)) in
    columns-more A R Q G kb w c e (e + 1) lo (lo + m) after (omega arith) (omega arith) first (column-lost A R Q G u z e kb w lo m same q s)

-- ---- what two columns ask

pub pair-pre : (n m kb ke c end e from lo hi xlen ylen glen len : ℕ) → ColumnsPre n m kb ke glen len → RowsPre n lo hi xlen → RowsPre n lo hi ylen → ke ≤ c
    → c < end → end ≡ min m hi → from ≡ max lo c → e ≡ min (c + 1) (end - 1)
    → PairPre (record { nrow = n; c = c; e = e; kb = kb; w = ke - kb; lo = from; n = hi - from }) xlen ylen glen len
pair-pre n m kb ke c end e from lo hi xlen ylen glen len h r q l g s f t =
    let k : kb + (ke - kb) ≡ ke = omega arith in
    let here : n + c * n ≤ len = col-in n m c len h.panel (omega arith) in
    let there : n + e * n ≤ len = col-in n m e len h.panel (omega arith) in
    record {
      after = omega arith;
      next = (omega arith, omega arith);
      diagonal = (omega arith, omega arith);
      rows = omega arith;
      first = omega arith;
      other = omega arith;
      column = here;
      second = there;
      out = h.out;
      columns = rw k (omega (arith, mul-le-mul_right n l));
    }
