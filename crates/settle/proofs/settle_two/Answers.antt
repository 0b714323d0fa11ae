-- `settle::settle_two` meets its contract: each return is one way through the tests. Assumes nothing.
use Rattle.settle.proofs.Laws.{two-low, two-high, two-raised, two-kept}
use borrow.Author.Rules.{rules}
use Rattle.settle.proofs.settle_two.Goals as goal

pub returns-then-size-growth_floor : goal.returns-then-size-growth_floor
returns-then-size-growth_floor c = search (rules, two-low)

pub returns-then-size-bar : goal.returns-then-size-bar
returns-then-size-bar c = search (rules, two-raised)

pub returns-else-size-growth_floor : goal.returns-else-size-growth_floor
returns-else-size-growth_floor c = search (rules, two-high)

pub returns-else-size-bar : goal.returns-else-size-bar
returns-else-size-bar c = search (rules, two-kept)
