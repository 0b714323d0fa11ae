-- `total::sum_of` meets its contract: either way is a case of the definition. Assumes nothing.
use Rattle.total.proofs.Sums.{sum-short, sum-long}
use borrow.Author.Rules.{rules}
use Rattle.total.proofs.sum_of.Goals as goal

pub returns-then-xs-lt16 : goal.returns-then-xs-lt16
returns-then-xs-lt16 c = search (rules, sum-short)

pub returns : goal.returns
returns c = search (rules, sum-long)
