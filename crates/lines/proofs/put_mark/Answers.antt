-- `lines::put_mark` meets its contract: nothing for a head row, a field for a tail row. Assumes nothing.
use Rattle.lines.proofs.Laws.{mark-some}
use Rattle.lines.proofs.put_mark.Goals as goal

pub returns-then-i-r-clause-writes : goal.returns-then-i-r-clause-writes
returns-then-i-r-clause-writes g c = mark-some _ _ _ _ _ c.if-i-r.true c.from.ensures c.put_field.ensures.writes
