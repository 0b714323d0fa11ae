-- `eliminate::apply_one` meets its contract: the sweep, then the pivot's column. Assumes nothing.
use Rattle.eliminate.proofs.Rows.{one-applied}
use borrow.Author.Rules.{rules}
use Rattle.eliminate.proofs.apply_one.Goals as goal

pub returns : goal.returns
returns c = search (rules, one-applied)
