-- `forward::lose_beside` meets its contract: columns k up to k + 4 are four. Assumes nothing.
use Rattle.forward.proofs.Together.{four-beside}
use Rattle.forward.proofs.lose_beside.Goals as goal

pub returns : goal.returns
returns c = search four-beside
