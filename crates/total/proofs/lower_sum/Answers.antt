-- What `total::lower_sum` owes. Assumes nothing.
use Rattle.total.proofs.Sums.{sum-turn, sum-end}
use borrow.Author.Rules.{rules}
use Rattle.total.proofs.lower_sum.Goals as goal

pub loop-j-preserved : goal.loop-j-preserved
loop-j-preserved c = search (rules, sum-turn)

pub returns : goal.returns
returns c = search (rules, sum-end)
