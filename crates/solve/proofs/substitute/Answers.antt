-- `solve::substitute` meets its contract: in the order, through the factor, and back. Assumes nothing.
use Rattle.solve.proofs.Steps.{lists-solve}
use borrow.Author.Rules.{rules}
use Rattle.solve.proofs.substitute.Goals as goal

pub returns : goal.returns
returns c = lists-solve _ _ _ _ _ _ _ _ _ _ c.requires c.take.ensures (search rules) c.through_factor.ensures (search rules) c.put_back.ensures
