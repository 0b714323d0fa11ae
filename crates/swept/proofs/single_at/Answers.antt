-- `swept::single_at` meets its contract, by the first pivot's kind. Assumes nothing.
use Rattle.swept.specs.Swept.{single_at}
use Rattle.swept.proofs.single_at.Goals as goal

pub returns-then-pair-clause-value : goal.returns-then-pair-clause-value
unfolding single_at
returns-then-pair-clause-value c = rw c.if-pair.true

pub returns-clause-value : goal.returns-clause-value
unfolding single_at
returns-clause-value c = rw c.if-pair.false
