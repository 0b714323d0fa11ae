-- `tail::partner` meets its contract: the list is read as the definition reads it. Assumes nothing.
use Rattle.model.specs.Matrix.{naturals}
use borrow.Author.Rules.{rules}
use Rattle.tail.proofs.partner.Goals as goal

pub returns : goal.returns
unfolding naturals
returns c = search rules
