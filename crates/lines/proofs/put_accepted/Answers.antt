-- `lines::put_accepted` meets its contract: its parts one after another. Assumes nothing.
use Rattle.lines.proofs.Laws.{accepted-is}
use Rattle.lines.proofs.put_accepted.Goals as goal

pub returns-clause-writes : goal.returns-clause-writes
returns-clause-writes g c = accepted-is _ _ c.push_word.ensures c.put_field.ensures.writes c.push.ensures
