-- `order::put_back` meets its contract. The invariant: putting back the positions from k on makes what putting all of them back makes. Assumes nothing.
use Prim.Native.Nat.{◌-◌}
use mathlib.Core.Path.{◌≡◌}
use lib.ListN.{length}
use Rattle.model.specs.Matrix.{vec, naturals}
use Rattle.model.specs.Solve.{returned_from}
use Rattle.order.proofs.put_back.Given as goal

abbrev pub invariant-loop-k : goal.invariant-loop-k
invariant-loop-k l =
    returned_from (naturals l.order) (vec l.y) (length l.y - l.k) l.k (vec l.vector)
    ≡ returned_from (naturals l.order) (vec l.y) (length l.y) 0 (vec l.initial.vector)
