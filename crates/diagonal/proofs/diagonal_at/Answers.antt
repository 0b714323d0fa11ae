-- `diagonal::diagonal_at` meets its contract: the definition by its test. Assumes nothing.
use Rattle.diagonal.proofs.Laws.{two_at, one_at}
use Rattle.diagonal.proofs.diagonal_at.Goals as goal

pub returns-then-block_begins : goal.returns-then-block_begins
returns-then-block_begins c = search two_at

pub returns : goal.returns
returns c = search one_at
