-- What `greatest::greatest_down` owes. Assumes nothing.
use Rattle.greatest.proofs.Squares.{down_step, down-end}
use borrow.Author.Rules.{rules}
use Rattle.greatest.proofs.greatest_down.Goals as goal

pub loop-i-preserved : goal.loop-i-preserved
loop-i-preserved c = search (rules, down_step)

pub returns : goal.returns
returns c = search (rules, down-end)
