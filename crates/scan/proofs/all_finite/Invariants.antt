-- `scan::all_finite` meets its contract. The invariant: what was found is the mark of the numbers before the one at hand. Assumes nothing.
use mathlib.Core.Path.{◌≡◌}
use Rattle.model.specs.Matrix.{vec}
use Rattle.model.specs.Factor.{mark_of}
use Rattle.scan.proofs.all_finite.Given as goal

abbrev pub invariant-loop-x : goal.invariant-loop-x
invariant-loop-x l = l.found ≡ mark_of l.x-index (vec l.xs)
