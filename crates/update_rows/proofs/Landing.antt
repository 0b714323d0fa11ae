-- Laws of one landing row, a part of the rows after another, and of the loop over the descendant's rows. Assumes nothing.
use mathlib.Core.Path.{◌≡◌, refl, sym, ◌∙◌, ap}
use mathlib.Core.Bool.{Bool, true, false, not}
use Prim.Native.Nat.{ℕ, zero, suc, ◌+◌, ◌-◌, ◌≤◌, ◌<◌}
use native.Mathlib.Omega.{arith}
use borrow.Author.Tests.{leb-true, ltb-true, not-true, not-false}
use lib.Dec.{leb, ltb}
use Rattle.model.specs.Matrix.{Row, Mat, naturals, with_part}
use Rattle.model.specs.Update.{Descendant, update_acc}
use Rattle.model.proofs.Cases.{and_left, and_right}
use Rattle.kernels.specs.Rules.{behind}
use Rattle.landing.specs.Rows.{lands_on}
use Rattle.update_sums.specs.Acc.{weighed, acc_of, sums_of, from_row}
use Rattle.kernels.proofs.Laws.{with_part-in}
use Rattle.update_rows.specs.Apply.{landing_acc, less_at, less_from, row_applied, rows_applied}
use Rattle.update_rows.proofs.Less.{less-end}

-- ---- agreement on the places that are looked at

less-same : (places : ℕ → ℕ) (f g : Row) (j m r : ℕ) (a : Mat) → ((s : ℕ) → r ≤ s → s < r + m → f s ≡ g s)
    → less_from places f j m r a ≡ less_from places g j m r a
unfolding less_from
less-same places f g j zero r a h = refl
less-same places f g j (suc m) r a h =
    rw (h r (omega arith) (omega arith)) (less-same places f g j m (r + 1) (less_at a (places r) j (g r)) (λ s l n. h s (omega arith) (omega arith)))

-- ---- a part of the rows, and one part after another

module _ (places : ℕ → ℕ) (f : Row) (j : ℕ) where
  less-parts : (m n r : ℕ) (a : Mat) → less_from places f j (m + n) r a ≡ less_from places f j n (r + m) (less_from places f j m r a)
  unfolding less_from
  less-parts zero n r a = let e : 0 + n ≡ n = omega arith in let g : r + 0 ≡ r = omega arith in rw (e, g)
  less-parts (suc m) n r a =
      let e : suc m + n ≡ suc (m + n) = omega arith in
      let g : r + suc m ≡ r + 1 + m = omega arith in
      rw (e, g) (less-parts m n (r + 1) (less_at a (places r) j (f r)))

  pub part_step : (lo hi n : ℕ) (a b w : Mat) → lo ≤ hi → hi ≤ n → b ≡ less_from places f j (hi - lo) lo a → less_from places f j (n - lo) lo a ≡ w
      → less_from places f j (n - hi) hi b ≡ w
  part_step lo hi n a b w l h e g =
      let m : n - lo ≡ hi - lo + (n - hi) = omega arith in
      let s : lo + (hi - lo) ≡ hi = omega arith in
      rw e (sym (rw s at (less-parts (hi - lo) (n - hi) lo a)) ∙ rw m at g)

-- acc of the panel's row A, as it comes out of `sum` for the rows nk + lo up to nk + hi
pub part-done : (places : ℕ → ℕ) (j nk lo hi : ℕ) (a z : Mat) (acc sum A : Row) → sum ≡ with_part acc 0 (nk + hi - (nk + lo)) (from_row A (nk + lo))
    → z ≡ less_from places (behind lo sum) j (hi - lo) lo a → z ≡ less_from places (from_row A nk) j (hi - lo) lo a
unfolding behind from_row
part-done places j nk lo hi a z acc sum A e g =
    g ∙ less-same places (λ r. sum (r - lo)) (λ r. A (nk + r)) j (hi - lo) lo a (λ r l m.
    ap (λ (u : Row). u (r - lo)) e
    ∙ with_part-in acc 0 (nk + hi - (nk + lo)) (λ r. A (nk + lo + r)) (r - lo) (omega arith) (omega arith) ∙ ap A (omega arith))

-- ---- row c: b says whether it lands

-- its acc as `sum` has it
abbrev row_acc : Descendant → ℕ → Row
row_acc k c = from_row (sums_of k k.nk (k.nk + c)) k.nk

module _ (first ncol : ℕ) (k : Descendant) (places : ℕ → ℕ) (c : ℕ) (b : Bool) (h : b ≡ lands_on first ncol (naturals k.rows c)) where
  pub row-none : (a : Mat) → not b ≡ true → a ≡ row_applied first ncol k places c a
  unfolding row_applied
  row-none a x = rw (← h, not-true b x)

  -- all parts are done
  pub row_done : (a z : Mat) (j lo : ℕ) → b ≡ true → j ≡ naturals k.rows c - first → k.mk ≤ lo
      → less_from places (row_acc k c) j (k.mk - lo) lo z ≡ less_from places (row_acc k c) j (k.mk - c) c a → z ≡ row_applied first ncol k places c a
  unfolding row_applied from_row landing_acc acc_of weighed
  row_done a z j lo x i l e = rw (← h, x, ← i) (less-end places (λ r. update_acc k r c) j k.mk lo z _ l e)

-- where it lands: at or past the first column, and before the end
module _ (first ncol g : ℕ) (b : Bool) (h : b ≡ lands_on first ncol g) (x : not b ≡ false) where
  landed : lands_on first ncol g ≡ true
  landed = sym h ∙ not-false b x

  pub lands-from : first ≤ g
  unfolding lands_on
  lands-from = leb-true first g (and_left (leb first g) (ltb g (first + ncol)) landed)

  pub lands-before : (j : ℕ) → j ≡ g - first → j < ncol
  unfolding lands_on
  lands-before j e = omega (arith, lands-from, ltb-true g (first + ncol) (and_right (leb first g) (ltb g (first + ncol)) landed))

-- ---- the loop

module _ (first ncol : ℕ) (k : Descendant) (places : ℕ → ℕ) (n : ℕ) where
  pub rows_step : (c : ℕ) (a b w : Mat) → c < n → b ≡ row_applied first ncol k places c a → rows_applied first ncol k places (n - c) c a ≡ w
      → rows_applied first ncol k places (n - (c + 1)) (c + 1) b ≡ w
  unfolding rows_applied
  rows_step c a b w h e f = let m : n - c ≡ suc (n - (c + 1)) = omega arith in rw e (rw m at f)

  pub rows_end : (c : ℕ) (a w : Mat) → n ≤ c → rows_applied first ncol k places (n - c) c a ≡ w → a ≡ w
  unfolding rows_applied
  rows_end c a w h f = let m : n - c ≡ 0 = omega arith in rw m at f
