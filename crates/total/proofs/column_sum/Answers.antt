-- `total::column_sum` meets its contract: what is lent is the column from its diagonal down. Assumes nothing.
use Rattle.total.proofs.Sums.{sum-lent}
use borrow.Author.Rules.{rules}
use Rattle.total.proofs.column_sum.Goals as goal

pub returns : goal.returns
returns c = search (rules, sum-lent)
