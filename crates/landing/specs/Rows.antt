-- Tests of one row, scans over rows, and where the descendant's rows stand among the target's. From docs/SCOPE.md, "Update".
-- Rows of the system are whole numbers; a place is an index into the target's rows. Definitions only. Assumes nothing.
use Rattle.std.specs.Prelude.{◌≡◌, Bool, true, cond, ◌&&◌, ◌||◌, List, ℕ, zero, suc, ◌+◌, ◌<◌, ◌≤◌, ◌^◌, leb, ltb, eqb, length, Option, Some, None}
use Rattle.model.specs.Sizes.{most_rows}
use Rattle.model.specs.Matrix.{naturals}
use Rattle.model.specs.Factor.{every_from}
use Rattle.model.specs.Update.{place_from}
use Rattle.model.specs.declared.LocalRow.{LocalRow}

-- row i of n is below the one after it, if there is one
unfoldable pub rises_at : (ℕ → ℕ) → ℕ → ℕ → Bool
rises_at rows n = λ i. eqb (i + 1) n || ltb (rows i) (rows (i + 1))

-- row i is that of column i
unfoldable pub stands_at : ℕ → (ℕ → ℕ) → ℕ → Bool
stands_at first rows = λ i. eqb (rows i) (first + i)

-- g is the row of one of the ncol columns from `first` on; so is row i
unfoldable pub lands_on : ℕ → ℕ → ℕ → Bool
lands_on first ncol g = leb first g && ltb g (first + ncol)

unfoldable pub lands_at : ℕ → ℕ → (ℕ → ℕ) → ℕ → Bool
lands_at first ncol rows = λ i. lands_on first ncol (rows i)

-- row i of the descendant is a row of the target
unfoldable pub there_at : List ℕ → (ℕ → ℕ) → ℕ → Bool
there_at rows krows = λ i. ltb (place_from (naturals rows) (krows i) (length rows) 0) (length rows)

-- the least of m places from i on where f holds, and the end where it holds at none
unfoldable pub first_from : (ℕ → Bool) → ℕ → ℕ → ℕ
first_from f zero i = i
first_from f (suc m) i = let rest = first_from f m (i + 1) in cond (f i) i rest

-- where a search for a row of the panel ended: its place, or the end n where it found none
abbrev pub found_of : Option LocalRow → ℕ → ℕ
found_of None n = n
found_of (Some p) n = p.0

-- ---- what the functions ask and give

-- so many columns are there, and adding one's number to a row fits
pub record ColumnsPre (ncol len : ℕ) : Type 0 where
  pub few : ncol < 2 ^ 32
  pub there : ncol ≤ len

-- two lists that rise, the first of few rows, and a place for each row from `start` on
pub record LocatePre (rows krows : List ℕ) (start room : ℕ) : Type 0 where
  pub target : every_from (rises_at (naturals rows) (length rows)) (length rows) 0 ≡ true
  pub descendant : every_from (rises_at (naturals krows) (length krows)) (length krows) 0 ≡ true
  pub begin : start ≤ length krows
  pub fits : length krows ≤ room
  pub few : length rows ≤ most_rows

-- `places` has, for rows lo up to hi of the descendant, where they stand among the target's
pub record Located (rows krows : List ℕ) (lo hi : ℕ) (places : List ℕ) : Type 0 where
  pub inside : (r : ℕ) → lo ≤ r → r < hi → naturals places r < length rows
  pub same : (r : ℕ) → lo ≤ r → r < hi → naturals rows (naturals places r) ≡ naturals krows r
