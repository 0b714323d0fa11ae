-- `tail::stays` meets its contract: by the block byte. Assumes nothing.
use Rattle.tail.proofs.Asked.{stays-block, stays-single}
use Rattle.tail.proofs.stays.Goals as goal

pub returns-then-block_begins : goal.returns-then-block_begins
returns-then-block_begins c = stays-block _ _ _ _ _ c.block_begins.ensures c.if-block_begins.true c.partner-p.ensures

pub returns : goal.returns
returns c = stays-single _ _ _ _ c.block_begins.ensures c.if-block_begins.false
