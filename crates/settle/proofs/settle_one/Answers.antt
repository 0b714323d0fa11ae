-- `settle::settle_one` meets its contract: each return is one way through the tests. Assumes nothing.
use Rattle.settle.proofs.Laws.{one-zero, one-nonzero, one-lifted, one_kept}
use borrow.Author.Rules.{rules}
use Rattle.settle.proofs.settle_one.Goals as goal

pub returns-then-d : goal.returns-then-d
returns-then-d c = search (rules, one-zero)

pub returns-then-magnitude-floor : goal.returns-then-magnitude-floor
returns-then-magnitude-floor c = search (rules, one-lifted)

pub returns-else-d : goal.returns-else-d
returns-else-d c = search (rules, one-nonzero)

pub returns-else-magnitude-floor : goal.returns-else-magnitude-floor
returns-else-magnitude-floor c = search (rules, one_kept)
