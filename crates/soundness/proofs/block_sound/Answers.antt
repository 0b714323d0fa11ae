-- `soundness::block_sound` meets its contract: the determinant is the definition's. Assumes nothing.
use Rattle.soundness.proofs.Result.{block-is}
use Rattle.soundness.proofs.block_sound.Goals as goal

pub returns : goal.returns
returns c = search block-is
