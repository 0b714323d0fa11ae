-- `back::less_down` meets its contract. The invariant: the rows from i on before hi are taken. Assumes nothing.
use Prim.Native.Nat.{◌-◌, ◌≤◌}
use mathlib.Core.Path.{◌≡◌}
use lib.ListN.{length}
use Rattle.model.specs.Matrix.{view, vec, naturals}
use Rattle.back.specs.Back.{fallen}
use Rattle.back.proofs.less_down.Given as goal

abbrev pub invariant-loop-i : goal.invariant-loop-i
invariant-loop-i l =
    (l.past ≤ l.i) × (l.s ≡ fallen (naturals l.blocks) (view (length l.x) l.panel) (vec l.x) l.k (l.hi - l.i) l.i l.v)
