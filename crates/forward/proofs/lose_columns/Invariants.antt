-- `forward::lose_columns` meets its contract. The invariant: the columns from s up to k are taken. Assumes nothing.
use Prim.Native.Nat.{◌-◌}
use mathlib.Core.Path.{◌≡◌}
use lib.ListN.{length}
use Rattle.model.specs.Matrix.{view, vec, naturals}
use Rattle.forward.specs.Forward.{columns_lost}
use Rattle.forward.proofs.lose_columns.Given as goal

abbrev pub invariant-loop-k : goal.invariant-loop-k
invariant-loop-k l =
    vec l.y ≡ columns_lost (naturals l.blocks) (view (length l.initial.y) l.panel) l.hi (l.k - l.s) l.s (vec l.initial.y)
