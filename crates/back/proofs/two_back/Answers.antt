-- `back::two_back` meets its contract: one position after the other. Assumes nothing.
use Rattle.back.proofs.Turns.{two_steps}
use Rattle.back.proofs.two_back.Goals as goal

pub returns : goal.returns
returns c = search two_steps
