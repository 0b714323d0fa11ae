-- What columns become from the numbers in the same row of columns before them, each operation rounded, in the order written: rows lo up to hi by a rule.
-- Definitions only. Assumes nothing.
use Rattle.std.specs.Prelude.{ℕ, ◌+◌, ◌*◌, ◌<◌, ◌≤◌, cond, Float}
use Rattle.model.specs.Scalar.{◌⊖◌, ◌⊗◌}
use Rattle.model.specs.Matrix.{Row, Mat, within, exchanged_place}
use Rattle.model.specs.Step.{less_multiple}
use Rattle.kernels.specs.Rules.{less_all}

-- a column as the rows see it
unfoldable pub column_of : Mat → ℕ → Row
column_of M j = λ a. M a j

-- x − a·m; and left alone where m is a zero of either sign
unfoldable pub less_times : Row → Row → Float → Row
less_times f s m = λ a. f a ⊖ s a ⊗ m

unfoldable pub less_times_if : Row → Row → Float → Row
less_times_if f s m = λ a. less_multiple (f a) (s a) m

-- (x − a·m1) − b·m2
unfoldable pub less_two : Row → Row → Row → Float → Float → Row
less_two f s t m1 m2 = λ a. (f a ⊖ s a ⊗ m1) ⊖ t a ⊗ m2

-- ((x − a·m1) − b·m2) − c·m3, and less d·m4
unfoldable pub less_three : Row → Row → Row → Row → Float → Float → Float → Row
less_three f s t u m1 m2 m3 = less_times (less_two f s t m1 m2) u m3

unfoldable pub less_four : Row → Row → Row → Row → Row → Float → Float → Float → Float → Row
less_four f s t u v m1 m2 m3 m4 = less_two (less_two f s t m1 m2) u v m3 m4

-- column j less columns k to k + c − 1, times m 0 to m (c − 1), in turn
unfoldable pub less_columns : ℕ → Mat → ℕ → ℕ → (ℕ → Float) → Row
less_columns c M k j m = λ a. less_all c (M a j) (λ u. M a (k + u)) m

-- rows lo up to hi of columns p and q, one for the other
unfoldable pub columns_exchanged : Mat → ℕ → ℕ → ℕ → ℕ → Mat
columns_exchanged M p q lo hi = λ i j. cond (within lo hi i) (M i (exchanged_place p q j)) (M i j)

-- ---- what the functions over a part ask

pub record PartPre (lo hi len : ℕ) : Type 0 where
  pub up : lo ≤ hi
  pub places : hi ≤ len

-- ---- what the functions over a column of n rows ask: lo up to hi are rows of it

-- columns k and, past it, j, each there as far as row hi: of a part of a panel that ends within a column, no more than that is asked
pub record LaterPre (n k j lo hi len : ℕ) : Type 0 where
  pub col : hi + j * n ≤ len
  pub past : k < j
  pub up : lo ≤ hi
  pub rows : hi ≤ n

-- rows lo up to hi of column j
pub record RowsPre (n j lo hi len : ℕ) : Type 0 where
  pub col : hi + j * n ≤ len
  pub up : lo ≤ hi
  pub rows : hi ≤ n

pub record ExchangePre (n p q lo hi len : ℕ) : Type 0 where
  pub one : hi + p * n ≤ len
  pub other : hi + q * n ≤ len
  pub up : lo ≤ hi
  pub rows : hi ≤ n
