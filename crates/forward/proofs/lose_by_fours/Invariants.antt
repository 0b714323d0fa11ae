-- `forward::lose_by_fours` meets its contract. The invariant: the first 4·f columns are taken. Assumes nothing.
use Prim.Native.Nat.{◌*◌}
use mathlib.Core.Path.{◌≡◌}
use lib.ListN.{length}
use Rattle.model.specs.Matrix.{view, vec, naturals}
use Rattle.forward.specs.Forward.{columns_lost}
use Rattle.forward.proofs.lose_by_fours.Given as goal

abbrev pub invariant-loop-f : goal.invariant-loop-f
invariant-loop-f l =
    vec l.y ≡ columns_lost (naturals l.blocks) (view (length l.initial.y) l.panel) (length l.initial.y) (4 * l.f) 0 (vec l.initial.y)
