-- `diagonal::block_begins` meets its contract: the byte is read as the definition reads it. Assumes nothing.
use mathlib.Core.Path.{refl}
use Rattle.model.specs.Matrix.{naturals}
use Rattle.diagonal.proofs.block_begins.Goals as goal

pub returns : goal.returns
unfolding naturals
returns c = refl
