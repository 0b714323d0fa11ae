-- `divide::divide` meets its contract. The invariant: a pivot begins at k, and the positions before it are divided; the measure is what is left of them.
-- Assumes nothing.
use Prim.Native.Nat.{◌-◌, ◌≤◌}
use mathlib.Core.Path.{◌≡◌}
use Rattle.model.specs.Matrix.{vec, naturals, with_part}
use Rattle.model.specs.Step.{diagonals_in}
use Rattle.model.specs.Kept.{Starts}
use Rattle.model.specs.Solve.{divided}
use Rattle.divide.proofs.divide.Given as goal

abbrev pub invariant-loop-k : goal.invariant-loop-k
invariant-loop-k l =
    (l.k ≤ l.n) × Starts (naturals l.x.blocks.now) l.k
    × (vec l.y ≡ with_part (vec l.initial.y) 0 l.k (divided (diagonals_in l.x) (vec l.initial.y)))

abbrev pub decreases-loop-k : goal.decreases-loop-k
decreases-loop-k l = l.n - l.k
