-- `scan::mark` meets its contract: each arm is a case of the definition. Assumes nothing.
use Rattle.scan.specs.Finite.{marked_by}
use Rattle.scan.proofs.mark.Goals as goal

pub returns-then-is_finite : goal.returns-then-is_finite
unfolding marked_by
returns-then-is_finite c = rw (← c.is_finite.ensures, c.if-is_finite.true)

pub returns-else-is_finite : goal.returns-else-is_finite
unfolding marked_by
returns-else-is_finite c = rw (← c.is_finite.ensures, c.if-is_finite.false)
