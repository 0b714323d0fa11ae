-- `back::back` meets its contract: the last positions one by one, then the others by fours. Assumes nothing.
use Rattle.back.proofs.Turns.{is-back}
use Rattle.back.proofs.back.Goals as goal

pub returns : goal.returns
returns c = search is-back
