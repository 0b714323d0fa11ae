-- `soundness::column_sound` meets its contract: the product of the four tests is the definition's. Assumes nothing.
use Rattle.soundness.proofs.Result.{column-is}
use Rattle.soundness.proofs.column_sound.Goals as goal

pub returns : goal.returns
returns c = search column-is
