-- `diagonal::block_at` meets its contract: the numbers are those of the lists. Assumes nothing.
use Rattle.model.specs.Matrix.{vec}
use Rattle.diagonal.proofs.block_at.Goals as goal

pub returns : goal.returns
unfolding vec
returns c = c.block_of.ensures
