-- `lapack::stands_first` meets its contract: the definition by its test. Assumes nothing.
use Rattle.lapack.proofs.ToWalk.{stands-here}
use Rattle.lapack.proofs.stands_first.Goals as goal

pub returns-else-not-block : goal.returns-else-not-block
returns-else-not-block c = stands-here _ _ _ _ c.requires.0 c.if-not-block.false
