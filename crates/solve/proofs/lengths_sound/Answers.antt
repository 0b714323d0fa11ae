-- `solve::lengths_sound` meets its contract: the definition by its tests. Assumes nothing.
use mathlib.Core.Path.{refl}
use Rattle.model.specs.Solve.{solve_lengths}
use Rattle.solve.proofs.lengths_sound.Goals as goal

pub returns : goal.returns
unfolding solve_lengths
returns c = refl
