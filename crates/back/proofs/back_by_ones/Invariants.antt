-- `back::back_by_ones` meets its contract. The invariant: taking the positions before k back makes what taking all of them makes.
-- Assumes nothing.
use Prim.Native.Nat.{◌-◌}
use mathlib.Core.Path.{◌≡◌}
use lib.ListN.{length}
use Rattle.model.specs.Matrix.{view, vec, naturals}
use Rattle.back.specs.Back.{steps_back}
use Rattle.back.proofs.back_by_ones.Given as goal

abbrev pub invariant-loop-k : goal.invariant-loop-k
invariant-loop-k l =
    steps_back (naturals l.blocks) (view (length l.initial.x) l.panel) (length l.initial.x) (l.k - l.s) l.s (vec l.x)
    ≡ steps_back (naturals l.blocks) (view (length l.initial.x) l.panel) (length l.initial.x) (length l.initial.x - l.s) l.s (vec l.initial.x)
