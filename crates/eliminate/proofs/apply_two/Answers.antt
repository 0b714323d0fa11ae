-- `eliminate::apply_two` meets its contract: the sweep, then the block's columns. Assumes nothing.
use Rattle.eliminate.proofs.Rows.{two-applied}
use borrow.Author.Rules.{rules}
use Rattle.eliminate.proofs.apply_two.Goals as goal

pub returns : goal.returns
returns c = search (rules, two-applied)
