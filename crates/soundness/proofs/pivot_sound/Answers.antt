-- `soundness::pivot_sound` meets its contract: a block has its second column, so that d22 is there. Assumes nothing.
use Rattle.soundness.proofs.Result.{pivot-two, pivot-one}
use Rattle.soundness.proofs.pivot_sound.Goals as goal

pub returns-then-block_begins : goal.returns-then-block_begins
returns-then-block_begins c = search pivot-two

pub returns : goal.returns
returns c = search pivot-one
