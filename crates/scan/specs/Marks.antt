-- The marks of the tail's rows, column by column, and what the scan asks of its callers. From docs/SCOPE.md, "The factor call".
-- Definitions only. Assumes nothing.
use Rattle.std.specs.Prelude.{◌≡◌, cond, List, ℕ, ◌+◌, ◌-◌, ◌*◌, ◌≤◌, ltb, length, Float}
use Rattle.model.specs.Matrix.{Mat, vec, naturals, tabulate}
use Rattle.model.specs.Factor.{mark_of}
use Rattle.scan.specs.Finite.{marked_by}

-- the first n marks after one number more of each of their rows
unfoldable pub part_marked : List ℕ → List Float → ℕ → List ℕ
part_marked ms xs n = tabulate (length ms) (λ i. cond (ltb i n) (marked_by (naturals ms i) (vec xs i)) (naturals ms i))

-- the marks of rows lo up to hi after their column j
unfoldable pub marked : List ℕ → Mat → ℕ → ℕ → ℕ → List ℕ
marked ms a lo hi j = tabulate (hi - lo) (λ i. marked_by (naturals ms i) (a (lo + i) j))

-- the marks of rows lo up to hi, by their first c columns
unfoldable pub tail_marks : Mat → ℕ → ℕ → ℕ → List ℕ
tail_marks a lo hi c = tabulate (hi - lo) (λ i. mark_of c (a (lo + i)))

-- rows c up to n of column j, and as many marks
pub record TailColumnPre (n c j len marks : ℕ) : Type 0 where
  pub rows : c ≤ n
  pub there : n + j * n ≤ len
  pub tail : marks ≡ n - c
