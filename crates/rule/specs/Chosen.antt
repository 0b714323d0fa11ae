-- The choice of the pivot rule: the rows that it can name, and the tests that look at a row. Definitions only. Assumes nothing.
use Rattle.std.specs.Prelude.{cond, ℕ, ◌+◌, Float}
use Rattle.std.specs.Float.Ieee.{le}
use Rattle.model.specs.Scalar.{◌⊗◌, ◌⊘◌, magnitude_of}
use Rattle.model.specs.Root.{sqrt_of, alpha}
use Rattle.model.specs.Matrix.{Mat}
use Rattle.model.specs.Choice.{row_greatest, with_row}
use Rattle.model.specs.declared.LocalRow.{LocalRow}
use Rattle.model.specs.declared.Choice.{Choice}
use Rattle.model.specs.declared.Choice.TheVariants.{ZeroColumn, Single, Block}
use Rattle.model.specs.declared.PivotTest.TheVariants as by
use Rattle.greatest.specs.Greatest.{Within}

-- the rows exchanged stand within the panel that ends at ke, a block's second one below k, so that a block never crosses ke
abbrev pub ChoiceWithin : ℕ → ℕ → Choice → Type 0
ChoiceWithin k ke ZeroColumn = Unit {0}
ChoiceWithin k ke (Single c) = Within k ke c.kp.0
ChoiceWithin k ke (Block c) = Within k ke c.p.0 × Within (k + 1) ke c.kp.0

-- the tests of the choice that look at row imax, which holds the column's greatest magnitude, colmax; own is the diagonal's
unfoldable pub by_row : Mat → ℕ → ℕ → (own colmax : Float) → (imax : LocalRow) → Choice
by_row a k ke own colmax imax =
    let here : LocalRow = record { 0 = k } in
    let rowmax = sqrt_of (row_greatest a k ke imax.0).square in
    let block = Block (with_row by.Block k imax) in
    let exchanged_diagonal = cond (le (alpha ⊗ rowmax) (magnitude_of (a imax.0 imax.0))) (Single (with_row by.ExchangedDiagonal k imax)) block in
    cond (le (alpha ⊗ colmax ⊗ (colmax ⊘ rowmax)) own) (Single (with_row by.RowTest k here)) exchanged_diagonal
