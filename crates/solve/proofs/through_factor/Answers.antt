-- `solve::through_factor` meets its contract: the three steps in turn. Assumes nothing.
use Rattle.solve.proofs.Steps.{through}
use borrow.Author.Rules.{rules}
use Rattle.solve.proofs.through_factor.Goals as goal

pub returns : goal.returns
returns c = through _ _ _ _ _ _ _ _ _ c.forward.ensures (search rules) c.divide.ensures (search rules) c.back.ensures
