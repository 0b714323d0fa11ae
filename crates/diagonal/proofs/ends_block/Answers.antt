-- `diagonal::ends_block` meets its contract: the first column ends no block. Assumes nothing.
use Rattle.diagonal.proofs.Laws.{ends-later}
use Rattle.diagonal.proofs.ends_block.Goals as goal

pub returns : goal.returns
returns c = search ends-later
