-- `back::step_back` meets its contract: the number that the sum ends in is put in its place. Assumes nothing.
use Rattle.back.proofs.Turns.{step-put}
use Rattle.back.proofs.step_back.Goals as goal

pub returns : goal.returns
returns c = search step-put
