-- `square_root::near_root` meets its contract: the root is above the middle exactly where what is left is more than it. Assumes nothing.
use Rattle.square_root.proofs.Steps.{near_up, near-stays}
use borrow.Author.Rules.{rules}
use Rattle.square_root.proofs.near_root.Goals as goal

pub returns-then-v : goal.returns-then-v
returns-then-v c = near_up c.extend-v.ensures (search rules) (search rules)

pub returns-else-v : goal.returns-else-v
returns-else-v c = near-stays c.extend-v.ensures (search rules) (search rules)
