-- `tail::arrive` meets its contract: by the block byte. Assumes nothing.
use Rattle.tail.proofs.Asked.{first-ahead, arrive-pre}
use Rattle.tail.proofs.Laws.{arrive-block, arrive-single}
use Rattle.tail.proofs.arrive.Goals as goal

pub column_from-requires : goal.column_from-requires
column_from-requires c =
    first-ahead _ _ _ _ _ c.requires.here_pre c.block_begins.ensures c.if-block_begins.true _ c.partner-p.ensures

pub exchange-requires : goal.exchange-requires
exchange-requires c =
    arrive-pre _ _ _ _ _ c.requires.here_pre c.block_begins.ensures c.if-block_begins.true _ _ _ _ c.requires.lent_pre c.partner-p.ensures
    c.column_from.ensures

pub returns-then-block_begins : goal.returns-then-block_begins
returns-then-block_begins c =
    let ahead = first-ahead _ _ _ _ _ c.requires.here_pre c.block_begins.ensures c.if-block_begins.true _ c.partner-p.ensures in
    arrive-block _ _ _ _ _ _ _ c.block_begins.ensures _ _ c.if-block_begins.true c.partner-p.ensures ahead c.column_from.ensures
    c.exchange.ensures

pub returns-else-block_begins : goal.returns-else-block_begins
returns-else-block_begins c = arrive-single _ _ _ _ _ _ c.block_begins.ensures c.if-block_begins.false
