-- `update_sums::add_column` meets its contract: what is lent are the column's rows. Assumes nothing.
use Rattle.update_sums.proofs.Numbers.{add-lent}
use borrow.Author.Rules.{rules}
use Rattle.update_sums.proofs.add_column.Goals as goal

pub returns : goal.returns
returns c = search (rules, add-lent)
