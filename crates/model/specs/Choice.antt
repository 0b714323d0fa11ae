-- The choice of a pivot at k within a panel that ends at ke. From docs/SCOPE.md, "The pivot tests", in LAPACK xSYTF2's words.
-- Definitions only. Assumes nothing.
use Rattle.std.specs.Prelude.{cond, ℕ, zero, suc, ◌+◌, ◌-◌}
use Rattle.std.specs.Float.Ieee.{lt, le, eq}
use Rattle.model.specs.Scalar.{◌⊗◌, ◌⊘◌, zero_f, magnitude_of, square_of, maximum_of}
use Rattle.model.specs.Root.{sqrt_of, alpha}
use Rattle.model.specs.Matrix.{Row, Mat}
use Rattle.model.specs.declared.LocalRow.{LocalRow}
use Rattle.model.specs.declared.Greatest.{Greatest}
use Rattle.model.specs.declared.Choice.{Choice}
use Rattle.model.specs.declared.Choice.TheVariants.{ZeroColumn, Single, Block}
use Rattle.model.specs.declared.Chosen.{Chosen}
use Rattle.model.specs.declared.PivotTest.{PivotTest}
use Rattle.model.specs.declared.PivotTest.TheVariants as by

-- the greatest square of f over the n places from lo on, beginning with `best`: the first on ties; a not-a-number never wins
unfoldable pub greatest : Row → ℕ → ℕ → Greatest → Greatest
greatest f lo zero best = best
greatest f lo (suc n) best =
    let s = square_of (f lo) in
    greatest f (lo + 1) n (cond (lt best.square s) (record { square = s; at = record { 0 = lo } }) best)

-- nothing found yet: the square +0.0, at row k
abbrev pub none_yet : ℕ → Greatest
none_yet k = record { square = zero_f; at = record { 0 = k } }

-- the square of 'colmax': rows k + 1 up to ke of column k
unfoldable pub column_greatest : Mat → ℕ → ℕ → Greatest
column_greatest a k ke = greatest (λ i. a i k) (k + 1) (ke - (k + 1)) (none_yet k)

-- the square of 'rowmax': row r in columns k up to r, then column r in rows r + 1 up to ke
unfoldable pub row_greatest : Mat → ℕ → ℕ → ℕ → Greatest
row_greatest a k ke r = greatest (λ i. a i r) (r + 1) (ke - (r + 1)) (greatest (a r) k (r - k) (none_yet k))

-- ---- the tests

-- the number that a caller is told of each
abbrev pub test_number : PivotTest → ℕ
test_number by.ZeroColumn = 0
test_number by.OwnDiagonal = 1
test_number by.RowTest = 2
test_number by.ExchangedDiagonal = 3
test_number by.Block = 4

-- chosen at k by a test, with the row kp: nothing is exchanged before kp is
abbrev pub with_row : PivotTest → ℕ → LocalRow → Chosen
with_row t k kp = record { test = t; p = record { 0 = k }; kp = kp }

-- the five tests in their order, each naming itself in its choice; imax is the row of the column's greatest square
unfoldable pub choose_of : Mat → ℕ → ℕ → Choice
choose_of a k ke =
    let here : LocalRow = record { 0 = k } in
    let own = magnitude_of (a k k) in
    let c = column_greatest a k ke in
    let imax = c.at in
    let colmax = sqrt_of c.square in
    let bar = alpha ⊗ colmax in
    let rowmax = sqrt_of (row_greatest a k ke imax.0).square in
    let block = Block (with_row by.Block k imax) in
    let exchanged_diagonal = cond (le (alpha ⊗ rowmax) (magnitude_of (a imax.0 imax.0))) (Single (with_row by.ExchangedDiagonal k imax)) block in
    let row_test = cond (le (bar ⊗ (colmax ⊘ rowmax)) own) (Single (with_row by.RowTest k here)) exchanged_diagonal in
    let own_diagonal = cond (le bar own) (Single (with_row by.OwnDiagonal k here)) row_test in
    cond (eq (maximum_of own colmax) zero_f) ZeroColumn own_diagonal
