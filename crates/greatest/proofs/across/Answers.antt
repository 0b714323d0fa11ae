-- `greatest::across` meets its contract: one number is read, the greater place its row. Assumes nothing.
use Rattle.greatest.proofs.Squares.{across-is}
use borrow.Author.Rules.{rules}
use Rattle.greatest.proofs.across.Goals as goal

pub returns : goal.returns
returns c = search (rules, across-is)
