-- `landing::lands` meets its contract: the definition by its tests. Assumes nothing.
use mathlib.Core.Path.{refl}
use Rattle.landing.specs.Rows.{lands_on}
use Rattle.landing.proofs.lands.Goals as goal

pub returns : goal.returns
unfolding lands_on
returns c = refl
