-- What `greatest::greatest_along` owes. Assumes nothing.
use Rattle.greatest.proofs.Squares.{along-step, along-end}
use borrow.Author.Rules.{rules}
use Rattle.greatest.proofs.greatest_along.Goals as goal

pub loop-j-preserved : goal.loop-j-preserved
loop-j-preserved c = search (rules, along-step)

pub returns : goal.returns
returns c = search (rules, along-end)
