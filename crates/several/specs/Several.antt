-- Several later columns, each less its own multiples of the same columns, in one pass. The u-th of them goes by the u-th list of multipliers.
-- Definitions only. Assumes nothing.
use Rattle.std.specs.Prelude.{ℕ, zero, suc, ◌+◌, ◌*◌, ◌<◌, ◌≤◌, List, [], get_or, Float}
use Rattle.model.specs.Matrix.{Row, Mat, vec, with_part, with_column}
use Rattle.kernels.specs.Rules.{less_runs}
use Rattle.grid.specs.Rules.{less_columns}

-- the u-th of several lists by its index
unfoldable pub list_at : List (List Float) → ℕ → Row
list_at m u = vec (get_or m u [])

-- ---- numbers of one slice

-- c runs of n numbers, of which the u-th begins at `to u`, the u-th by the rule R u
unfoldable pub runs_by : Row → (ℕ → ℕ) → ℕ → (ℕ → Row) → ℕ → Row
runs_by f to n R zero = f
runs_by f to n R (suc c) = with_part (runs_by f to n R c) (to c) (to c + n) (R c)

-- the u-th run, which begins at `to u`, less r runs, of which the v-th begins at `from v`, by the multipliers m u
unfoldable pub runs_less : ℕ → Row → (ℕ → ℕ) → (ℕ → ℕ) → (ℕ → Row) → ℕ → Row
runs_less r f from to m u = less_runs r f (to u) from (m u)

-- ---- columns of a part

-- c columns from j on, rows lo up to hi, the u-th of them by the rule R u
unfoldable pub columns_by : Mat → ℕ → ℕ → ℕ → (ℕ → Row) → ℕ → Mat
columns_by M j lo hi R zero = M
columns_by M j lo hi R (suc c) = with_column (columns_by M j lo hi R c) (j + c) lo hi (R c)

-- column j + u less columns 0 to r - 1 in turn, by the multipliers m u
unfoldable pub less_of : ℕ → Mat → ℕ → (ℕ → Row) → ℕ → Row
less_of r M j m u = less_columns r M 0 (j + u) (m u)

-- ---- what the functions ask

-- r runs of n numbers of one slice, of which the v-th begins at `from v`, are read; w more, of which the u-th begins at `to u`, stand past all of them, each
-- past the one before it
pub record RunsPre (r w n x : ℕ) (from to : ℕ → ℕ) : Type 0 where
  pub there : (v : ℕ) → v < r → from v + n ≤ x
  pub read : (v u : ℕ) → v < r → u < w → from v + n ≤ to u
  pub apart : (u : ℕ) → suc u < w → to u + n ≤ to (suc u)
  pub out : (u : ℕ) → u < w → to u + n ≤ x

-- rows 0 up to `rows` of columns 0 to c and, past them, of j up to the last, e
pub record ColumnsPre (n rows c j e len : ℕ) : Type 0 where
  pub col : rows + e * n ≤ len
  pub past : c < j
  pub height : rows ≤ n
