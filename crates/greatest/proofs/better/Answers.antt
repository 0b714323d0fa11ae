-- `greatest::better` meets its contract: each way out is a case of the definition. Assumes nothing.
use Rattle.greatest.specs.Greatest.{better}
use Rattle.greatest.proofs.better.Goals as goal

pub returns-then-square-best : goal.returns-then-square-best
unfolding better
returns-then-square-best c = rw (← c.square-square.ensures, c.if-square-best.true)

pub returns : goal.returns
unfolding better
returns c = rw (← c.square-square.ensures, c.if-square-best.false)
