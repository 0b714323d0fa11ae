-- `panels::later_columns` meets its contract: past the last column there is nothing to update. Assumes nothing.
use Rattle.panels.proofs.Work.{deferred-none}
use Rattle.panels.proofs.later_columns.Goals as goal

pub returns-then-at : goal.returns-then-at
returns-then-at c = deferred-none _ _ _ _ _ _ c.if-at.true
