-- Laws of columns that one column loses together. Assumes nothing.
use Prim.Native.Nat.{ℕ, ◌+◌, ◌-◌, ◌<◌}
use mathlib.Core.Path.{◌≡◌, refl, sym, ◌∙◌, ap, fun_ext}
use mathlib.Core.List.{List}
use native.Mathlib.Omega.{arith}
use borrow.Author.Tests.{eqb-true, eqb-false}
use lib.Dec.{eqb}
use lib.ListN.{length, set}
use lib.Seq.{get_or-set_same, get_or-set_other}
use lib.Ieee.{Float}
use Rattle.model.specs.Matrix.{Mat, column_start, view, vec, naturals, with_column, with_part}
use Rattle.model.proofs.Cases.{test}
use Rattle.kernels.specs.Rules.{less_all, less_runs, RunsPre}
use Rattle.kernels.proofs.Rules.{all_same}
use Rattle.kernels.proofs.Parts.{part-bounds}
use Rattle.grid.specs.Rules.{column_of, less_columns, less_times, less_two, less_three, less_four, LaterPre}
use Rattle.grid.proofs.Laws.{view-at}
use Rattle.grid.proofs.Parts.{view-part, column-past}

-- one place more
pub places-step : (xs : List ℕ) (u w c : ℕ) (f : ℕ → ℕ) → length xs ≡ c → u < c → ((v : ℕ) → v < u → naturals xs v ≡ f v) → w ≡ f u
    → (v : ℕ) → v < u + 1 → naturals (set xs u w) v ≡ f v
unfolding naturals
places-step xs u w c f r o h e v l =
    test (eqb v u)
    (λ p. rw (eqb-true v u p) (get_or-set_same xs u w 0 (omega arith) ∙ e))
    (λ p. get_or-set_other xs u v w 0 (eqb-false v u p) ∙ h v (omega (arith, eqb-false v u p)))

-- c columns from k on, whose rows lo stand where `from` says, each before column j, whose row lo stands at q
module _ (n : ℕ) (xs : List Float) (c k j q lo hi : ℕ) (from : ℕ → ℕ) (own : q ≡ lo + column_start n j) (pre : LaterPre n (k + (c - 1)) j lo hi (length xs))
    (at : (u : ℕ) → u < c → from u ≡ lo + column_start n (k + u)) where
  pub columns-runs : RunsPre c (hi - lo) q (length xs) from
  columns-runs =
      let rows = pre.rows in
      let up = pre.up in
      let col = pre.col in
      record {
        apart = λ u l. let next = column-past n (k + u) j (omega (arith, pre.past)) in omega (arith, at u l);
        out = omega arith;
      }

  pub columns-less : (ys : List Float) (m : ℕ → Float) → vec ys ≡ with_part (vec xs) q (q + (hi - lo)) (less_runs c (vec xs) q from m)
      → view n ys ≡ with_column (view n xs) j lo hi (less_columns c (view n xs) k j m)
  unfolding view vec less_runs less_columns
  columns-less ys m e =
      view-part n (vec xs) (vec ys) j (column_start n j) lo hi _ _ refl pre.rows (e ∙ part-bounds _ _ _ _ _ _ (omega arith) (omega (arith, pre.up)))
      (λ a l g.
      let row : a < n = omega (arith, pre.rows) in
      all_same c _ _ _ _ m
      (ap (vec xs) (omega arith) ∙ sym (view-at n xs a j row))
      (λ u o. ap (vec xs) (omega (arith, at u o)) ∙ sym (view-at n xs a (k + u) row)))

-- ---- of one column, of two, of three and of four

pub columns-one : (M : Mat) (k j : ℕ) (m : ℕ → Float) → less_columns 1 M k j m ≡ less_times (column_of M j) (column_of M k) (m 0)
unfolding less_columns less_all column_of less_times
columns-one M k j m = fun_ext λ a. let z : k + 0 ≡ k = omega arith in rw z

pub columns-two : (M : Mat) (k j : ℕ) (m : ℕ → Float) → less_columns 2 M k j m ≡ less_two (column_of M j) (column_of M k) (column_of M (k + 1)) (m 0) (m 1)
unfolding less_columns less_all column_of less_two
columns-two M k j m = fun_ext λ a. let z : k + 0 ≡ k = omega arith in rw z

pub columns-three : (M : Mat) (k j : ℕ) (m : ℕ → Float)
    → less_columns 3 M k j m ≡ less_three (column_of M j) (column_of M k) (column_of M (k + 1)) (column_of M (k + 2)) (m 0) (m 1) (m 2)
unfolding less_columns less_all column_of less_two less_times less_three
columns-three M k j m = fun_ext λ a. let z : k + 0 ≡ k = omega arith in rw z

pub columns-four : (M : Mat) (k j : ℕ) (m : ℕ → Float)
    → less_columns 4 M k j m
    ≡ less_four (column_of M j) (column_of M k) (column_of M (k + 1)) (column_of M (k + 2)) (column_of M (k + 3)) (m 0) (m 1) (m 2) (m 3)
unfolding less_columns less_all column_of less_two less_four
columns-four M k j m = fun_ext λ a. let z : k + 0 ≡ k = omega arith in rw z
