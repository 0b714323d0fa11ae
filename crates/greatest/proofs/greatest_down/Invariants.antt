-- `greatest::greatest_down` meets its contract. The invariant: what is left of the scan, on top of the best so far, is the whole of it.
-- Assumes nothing.
use Prim.Native.Nat.{◌≤◌}
use mathlib.Core.Path.{◌≡◌}
use Rattle.model.specs.Matrix.{view}
use Rattle.greatest.specs.Greatest.{greatest_down}
use Rattle.greatest.proofs.greatest_down.Given as goal

abbrev pub invariant-loop-i : goal.invariant-loop-i
invariant-loop-i l =
    (l.lo ≤ l.i) × (l.i ≤ l.hi) × (greatest_down (view l.nrow l.panel) l.column l.i l.hi l.g ≡ greatest_down (view l.nrow l.panel) l.column l.lo l.hi l.initial.g)
