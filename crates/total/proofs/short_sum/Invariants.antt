-- `total::short_sum` meets its contract. The invariant: what is left of the sum, on top of that so far, is the whole of it. Assumes nothing.
use Prim.Native.Nat.{◌-◌}
use mathlib.Core.Path.{◌≡◌}
use lib.ListN.{length}
use Rattle.model.specs.Matrix.{vec}
use Rattle.model.specs.Panel.{sum_from}
use Rattle.total.proofs.short_sum.Given as goal

abbrev pub invariant-loop-x : goal.invariant-loop-x
invariant-loop-x l = sum_from (vec l.xs) l.x-index (length l.xs - l.x-index) l.s ≡ sum_from (vec l.xs) 0 (length l.xs) l.initial.s
