-- A step by its kind, column by column, and what the own columns leave, place by place. Assumes nothing.
use Prim.Native.Nat.{ℕ, ◌+◌, ◌<◌, ◌≤◌}
use mathlib.Core.Path.{◌≡◌}
use mathlib.Core.Bool.{false, cond}
use native.Mathlib.Omega.{arith}
use borrow.Author.Tests.{lt-ltb, le-ltb, le-leb, lt-leb, eq-eqb, ne_eqb, eqb-true, eqb-false}
use lib.Dec.{eqb, leb}
use lib.Ieee.{Float}
use Rattle.model.specs.Scalar.{◌⊗◌, reciprocal_of}
use Rattle.model.specs.Matrix.{Row, Mat, within, with_column}
use Rattle.model.specs.Step.{is_block, first_multiplier, second_multiplier, eliminated}
use Rattle.model.specs.Head.{last_of}
use Rattle.model.specs.declared.Diagonal.{Diagonal}
use Rattle.model.specs.declared.Diagonal.TheVariants.{One, Two}
use Rattle.model.proofs.Cases.{test, no}
use Rattle.kernels.specs.Rules.{times, combined}
use Rattle.grid.specs.Rules.{column_of}
use Rattle.less.specs.Less.{less_at}
use Rattle.pairs.specs.Pairs.{step_of, own_by}

-- ---- a step by its kind, column by column

-- the own column j of the row r
unfoldable pub own_at : Diagonal → Row → ℕ → ℕ → Float
own_at (One d) r k j = r k ⊗ reciprocal_of d
own_at (Two b) r k j = cond (eqb j k) (first_multiplier b (r k) (r (k + 1))) (second_multiplier b (r k) (r (k + 1)))

pub own_same : (x : Diagonal) (r s : Row) (k j : ℕ) → ((c : ℕ) → k ≤ c → c ≤ last_of k (is_block x) → r c ≡ s c) → own_at x r k j ≡ own_at x s k j
unfolding own_at last_of
own_same (One d) r s k j h = rw (h k (omega arith) (omega arith))
own_same (Two b) r s k j h = rw (h k (omega arith) (omega arith), h (k + 1) (omega arith) (omega arith))

module _ (k kp end : ℕ) (m1 m2 r : Row) (j : ℕ) where
  pub step-own : (x : Diagonal) → k ≤ j → j ≤ last_of k (is_block x) → eliminated (step_of k kp x m1 m2) end r j ≡ own_at x r k j
  unfolding eliminated own_at last_of
  step-own (One d) h g = rw (eq-eqb j k (omega arith))
  step-own (Two b) h g = test (eqb j k) (λ x. rw x) (λ x. rw (x, eq-eqb j (k + 1) (omega (arith, eqb-false j k x))))

  pub step-later : (x : Diagonal) → last_of k (is_block x) < j → j < end → eliminated (step_of k kp x m1 m2) end r j ≡ less_at (is_block x) r k (m1 j) (m2 j) (r j)
  unfolding eliminated less_at last_of
  step-later (One d) h g = rw (ne_eqb j k (λ x. omega arith), le-leb (k + 1) j (omega arith), lt-ltb j end g)
  step-later (Two b) h g = rw (ne_eqb j k (λ x. omega arith), ne_eqb j (k + 1) (λ x. omega arith), le-leb (k + 2) j (omega arith), lt-ltb j end g)

  pub step-before : (x : Diagonal) → j < k → eliminated (step_of k kp x m1 m2) end r j ≡ r j
  unfolding eliminated
  step-before (One d) h = rw (ne_eqb j k (λ x. omega arith), lt-leb (k + 1) j (omega arith))
  step-before (Two b) h = rw (ne_eqb j k (λ x. omega arith), ne_eqb j (k + 1) (λ x. omega arith), lt-leb (k + 2) j (omega arith))

  pub step_past : (x : Diagonal) → last_of k (is_block x) < j → end ≤ j → eliminated (step_of k kp x m1 m2) end r j ≡ r j
  unfolding eliminated last_of
  step_past (One d) h g = rw (ne_eqb j k (λ x. omega arith), le-ltb j end g, no (leb (k + 1) j))
  step_past (Two b) h g = rw (ne_eqb j k (λ x. omega arith), ne_eqb j (k + 1) (λ x. omega arith), le-ltb j end g, no (leb (k + 2) j))

-- ---- what the own columns leave, place by place

module _ (M : Mat) (k lo hi : ℕ) (i j : ℕ) where
  pub own_in : (x : Diagonal) → lo ≤ i → i < hi → k ≤ j → j ≤ last_of k (is_block x) → own_by M k lo hi x i j ≡ own_at x (M i) k j
  unfolding own_by own_at with_column combined times column_of last_of
  own_in (One d) h g u v = rw (le-leb lo i h, lt-ltb i hi g, eq-eqb j k (omega arith))
  own_in (Two b) h g u v =
      rw (le-leb lo i h, lt-ltb i hi g)
      (test (eqb j k) (λ x. rw (x, ne_eqb j (k + 1) (λ z. omega (arith, eqb-true j k x)))) (λ x. rw (x, eq-eqb j (k + 1) (omega (arith, eqb-false j k x)))))

  pub own-left : (x : Diagonal) → j < k → own_by M k lo hi x i j ≡ M i j
  unfolding own_by with_column
  own-left (One d) h = rw (ne_eqb j k (λ x. omega arith))
  own-left (Two b) h = rw (ne_eqb j k (λ x. omega arith), ne_eqb j (k + 1) (λ x. omega arith))

  pub own-right : (x : Diagonal) → last_of k (is_block x) < j → own_by M k lo hi x i j ≡ M i j
  unfolding own_by with_column last_of
  own-right (One d) h = rw (ne_eqb j k (λ x. omega arith))
  own-right (Two b) h = rw (ne_eqb j k (λ x. omega arith), ne_eqb j (k + 1) (λ x. omega arith))

  pub own_out : (x : Diagonal) → within lo hi i ≡ false → own_by M k lo hi x i j ≡ M i j
  unfolding own_by with_column
  own_out (One d) w = rw (w, no (eqb j k))
  own_out (Two b) w = rw (w, no (eqb j k), no (eqb j (k + 1)))
