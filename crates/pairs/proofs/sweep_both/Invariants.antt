-- `pairs::sweep_both` meets its contract. The invariant: the columns before j are swept; the measure is what is left. Assumes nothing.
use Prim.Native.Nat.{◌+◌, ◌≤◌, ◌-◌}
use mathlib.Core.Path.{◌≡◌}
use lib.ListN.{length}
use Rattle.model.specs.Matrix.{view}
use Rattle.swept.specs.Swept.{swept_pair}
use Rattle.pairs.proofs.sweep_both.Given as goal

abbrev pub invariant-loop-j : goal.invariant-loop-j
invariant-loop-j l =
    (l.pair.f + 1 ≤ l.j) × (l.j ≤ l.pair.at.columns) × (length l.part ≡ length l.initial.part)
    × (view l.pair.at.nrow l.part ≡ swept_pair l.pair (view l.pair.at.nrow l.initial.part) (view l.pair.at.nb l.mult) (l.pair.f + 1) l.j)

abbrev pub decreases-loop-j : goal.decreases-loop-j
decreases-loop-j l = l.pair.at.columns - l.j
