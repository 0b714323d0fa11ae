-- `order::take` meets its contract. The invariant: the positions before k are taken. Assumes nothing.
use mathlib.Core.Path.{◌≡◌}
use Rattle.model.specs.Matrix.{vec, naturals, with_part}
use Rattle.model.specs.Solve.{ordered}
use Rattle.order.proofs.take.Given as goal

abbrev pub invariant-loop-k : goal.invariant-loop-k
invariant-loop-k l = vec l.y ≡ with_part (vec l.initial.y) 0 l.k (ordered (naturals l.order) (vec l.vector))
