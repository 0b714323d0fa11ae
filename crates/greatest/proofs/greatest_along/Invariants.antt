-- `greatest::greatest_along` meets its contract. The invariant: what is left of the scan, on top of the best so far, is the whole of it.
-- Assumes nothing.
use Prim.Native.Nat.{◌≤◌}
use mathlib.Core.Path.{◌≡◌}
use Rattle.model.specs.Matrix.{view}
use Rattle.greatest.specs.Greatest.{greatest_along}
use Rattle.greatest.proofs.greatest_along.Given as goal

abbrev pub invariant-loop-j : goal.invariant-loop-j
invariant-loop-j l =
    (l.lo ≤ l.j) × (l.j ≤ l.hi) × (greatest_along (view l.nrow l.panel) l.row l.j l.hi l.g ≡ greatest_along (view l.nrow l.panel) l.row l.lo l.hi l.initial.g)
