-- `forward::forward` meets its contract: fours, then the rest, make what the positions make. Assumes nothing.
use Rattle.forward.proofs.Positions.{is-forward}
use Rattle.forward.proofs.forward.Goals as goal

pub returns : goal.returns
returns c = search is-forward
