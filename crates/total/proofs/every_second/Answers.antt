-- `total::every_second` meets its contract: the eight numbers, added as the definition adds them. Assumes nothing.
use Rattle.model.specs.Matrix.{vec}
use Rattle.total.specs.Finite.{every_second}
use borrow.Author.Rules.{rules}
use Rattle.total.proofs.every_second.Goals as goal

pub returns : goal.returns
unfolding every_second vec
returns c = search rules
