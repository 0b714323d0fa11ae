-- `lapack::note_number` meets its contract: the number is stored twice. Assumes nothing.
use Rattle.lapack.proofs.ToWalk.{noted}
use Rattle.lapack.proofs.note_number.Goals as goal

pub returns-clause-noted : goal.returns-clause-noted
returns-clause-noted c = noted _ _ _ _ _ c.number_of-number.ensures c.number_of-number.type_inv c.requires.order c.requires.room
