-- `forward::lose_together` meets its contract: four columns beside, then below. Assumes nothing.
use Rattle.forward.proofs.Together.{four-columns}
use Rattle.forward.proofs.lose_together.Goals as goal

pub returns : goal.returns
returns c = search four-columns
