-- A later column of a part of a panel less what one pivot takes from it, or two one after the other, by the pivots' kinds. From docs/SCOPE.md, "The rows below
-- a panel". Rows count from the first row below the panel, columns from the first pivot.
-- Definitions only. Assumes nothing.
use Rattle.std.specs.Prelude.{ℕ, ◌+◌, Bool, cond, Float}
use Rattle.model.specs.Scalar.{◌⊖◌, ◌⊗◌}
use Rattle.model.specs.Matrix.{Row, Mat}
use Rattle.model.specs.Step.{less_multiple}

-- what a pivot at k, a block or a 1x1, takes from a number x of the row r, by x's multipliers
unfoldable pub less_at : Bool → Row → ℕ → Float → Float → Float → Float
less_at block r k m1 m2 x = cond block ((x ⊖ r k ⊗ m1) ⊖ r (k + 1) ⊗ m2) (less_multiple x (r k) m1)

-- from column j, by rows
unfoldable pub stepped : Bool → Mat → ℕ → ℕ → Float → Float → Row
stepped block M k j m1 m2 = λ a. less_at block (M a) k m1 m2 (M a j)

-- and then a pivot at l
unfoldable pub stepped_twice : Bool → Bool → Mat → ℕ → ℕ → ℕ → Float → Float → Float → Float → Row
stepped_twice block1 block2 M k l j m1 m2 m3 m4 = λ a. less_at block2 (M a) l m3 m4 (less_at block1 (M a) k m1 m2 (M a j))
