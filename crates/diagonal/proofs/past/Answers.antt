-- `diagonal::past` meets its contract: the definition by its test. Assumes nothing.
use Rattle.diagonal.proofs.Laws.{past-block, past-single}
use Rattle.diagonal.proofs.past.Goals as goal

pub returns-then-block_begins : goal.returns-then-block_begins
returns-then-block_begins c = search past-block

pub returns : goal.returns
returns c = search past-single
