-- `total::known_finite` meets its contract: it tests the sum of the lower positions. Assumes nothing.
use Rattle.total.specs.Finite.{sum_finite}
use Rattle.total.proofs.known_finite.Goals as goal

pub returns : goal.returns
unfolding sum_finite
returns c = cc
