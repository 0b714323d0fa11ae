-- `panels::rows_below` meets its contract: where the panel ends with the last row there is no row below. Assumes nothing.
use Rattle.panels.proofs.Work.{rows-none}
use Rattle.panels.proofs.rows_below.Goals as goal

pub returns-then-at : goal.returns-then-at
returns-then-at c = rows-none _ _ _ _ c.if-at.true
