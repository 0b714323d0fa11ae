-- Places of a column-major panel. Definitions only. Assumes nothing.
use Rattle.std.specs.Prelude.{ℕ, ◌+◌, ◌*◌, ◌<◌, ◌≤◌}

-- row i and column j stand within a list of that length
pub record In (n i j len : ℕ) : Type 0 where
  pub row : i < n
  pub off : i + j * n < len

-- rows lo up to hi of a column that is there
pub record DownPre (n column lo hi len : ℕ) : Type 0 where
  pub up : lo ≤ hi
  pub rows : hi ≤ n
  pub there : n + column * n ≤ len
