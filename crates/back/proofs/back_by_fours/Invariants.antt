-- `back::back_by_fours` meets its contract. The invariant: taking the first 4·f positions back makes what taking all 4·q of them makes.
-- Assumes nothing.
use Prim.Native.Nat.{◌*◌}
use mathlib.Core.Path.{◌≡◌}
use lib.ListN.{length}
use Rattle.model.specs.Matrix.{view, vec, naturals}
use Rattle.back.specs.Back.{steps_back}
use Rattle.back.proofs.back_by_fours.Given as goal

abbrev pub invariant-loop-f : goal.invariant-loop-f
invariant-loop-f l =
    steps_back (naturals l.blocks) (view (length l.initial.x) l.panel) (length l.initial.x) (4 * l.f) 0 (vec l.x)
    ≡ steps_back (naturals l.blocks) (view (length l.initial.x) l.panel) (length l.initial.x) (4 * l.q) 0 (vec l.initial.x)
