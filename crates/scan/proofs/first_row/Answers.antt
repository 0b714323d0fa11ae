-- `scan::first_row` meets its contract: each arm is a case of the definition. Assumes nothing.
use Rattle.scan.specs.Finite.{first_row}
use Rattle.scan.proofs.first_row.Goals as goal

pub returns-then-column_finite : goal.returns-then-column_finite
unfolding first_row
returns-then-column_finite c = rw (← c.column_finite.ensures, c.if-column_finite.true)

pub returns-else-column_finite : goal.returns-else-column_finite
unfolding first_row
returns-else-column_finite c = rw (← c.column_finite.ensures, c.if-column_finite.false)
