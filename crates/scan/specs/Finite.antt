-- Numbers that are finite: one by one, from a place on, and the row that the scan of a whole panel looks at first.
-- Definitions only. Assumes nothing.
use Rattle.std.specs.Prelude.{Bool, cond, ℕ, Float}
use Rattle.model.specs.Scalar.{is_finite}
use Rattle.model.specs.Matrix.{Row, Mat}
use Rattle.model.specs.Factor.{every_from}
use Rattle.total.specs.Finite.{column_finite}

-- a mark after one number more of its row
unfoldable pub marked_by : ℕ → Float → ℕ
marked_by m x = cond (is_finite x) m 1

-- the n numbers from i on are finite
unfoldable pub finite_from : Row → ℕ → ℕ → Bool
finite_from f i n = every_from (λ k. is_finite (f k)) n i

-- a column of n rows that is finite is passed over
unfoldable pub first_row : Mat → ℕ → ℕ → ℕ
first_row a n j = cond (column_finite a j j n) n j
