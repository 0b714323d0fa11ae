-- A scan for the greatest square: its two parts, what it finds, and what it asks of its callers.
-- Definitions only. Assumes nothing.
use Rattle.std.specs.Prelude.{◌≡◌, ◌⊎◌, cond, ℕ, ◌+◌, ◌-◌, ◌*◌, ◌<◌, ◌≤◌, ltb, Float}
use Rattle.std.specs.Float.Ieee.{lt}
use Rattle.model.specs.Scalar.{zero_f, square_of}
use Rattle.model.specs.Matrix.{Mat}
use Rattle.model.specs.Choice.{greatest}
use Rattle.model.specs.declared.Greatest.{Greatest}

-- the better of `best` and a square at place i
unfoldable pub better : Greatest → Float → ℕ → Greatest
better best square i = cond (lt best.square square) (record { square = square; at = record { 0 = i } }) best

-- the greatest square of rows lo up to hi of a column, and of columns lo up to hi of a row, beginning with `best`
unfoldable pub greatest_down : Mat → ℕ → ℕ → ℕ → Greatest → Greatest
greatest_down a column lo hi best = greatest (λ i. a i column) lo (hi - lo) best

unfoldable pub greatest_along : Mat → ℕ → ℕ → ℕ → Greatest → Greatest
greatest_along a row lo hi best = greatest (a row) lo (hi - lo) best

-- what row and column r hold, by symmetry, at place j: a r j left of the diagonal, a j r from there on
unfoldable pub across : Mat → ℕ → ℕ → Float
across a r j = cond (ltb j r) (a r j) (a j r)

-- lo ≤ i < hi
pub record Within (lo hi i : ℕ) : Type 0 where
  pub low : lo ≤ i
  pub high : i < hi

-- a square that is 0, or that of the number x
abbrev pub SquareOf : Float → Float → Type 0
SquareOf square x = (square ≡ zero_f) ⊎ (square ≡ square_of x)

-- a greatest square was met at a place from lo up to hi, where x stands; or it is 0, since none was above that
pub record FoundIn (lo hi : ℕ) (g : Greatest) (x : Float) : Type 0 where
  pub place : Within lo hi g.at.0
  pub of : SquareOf g.square x

-- columns lo up to hi of a row, all of them there
pub record AlongPre (n row lo hi len : ℕ) : Type 0 where
  pub up : lo ≤ hi
  pub inside : row < n
  pub there : hi * n ≤ len

-- column k of a panel that ends at ke
pub record ColumnPre (n c k ke len : ℕ) : Type 0 where
  pub here : k < ke
  pub columns : ke ≤ c
  pub rows : c ≤ n
  pub panel : len ≡ n * c

-- row and column r, and a place in them
pub record AcrossPre (n r at len : ℕ) : Type 0 where
  pub row : r < n
  pub inside : at < n
  pub column : n + r * n ≤ len

-- row and column r of a panel from k to ke
pub record RowPre (n c k ke r len : ℕ) : Type 0 where
  pub here : k ≤ r
  pub below : r < ke
  pub columns : ke ≤ c
  pub rows : c ≤ n
  pub panel : len ≡ n * c
