-- `total::long_sum` meets its contract. The invariant: what is left of either sum, on top of that so far, is the whole of it. Assumes nothing.
use Prim.Native.Nat.{◌/◌}
use mathlib.Core.Path.{◌≡◌}
use lib.ListN.{length}
use Rattle.model.specs.Matrix.{vec}
use Rattle.model.specs.Panel.{sum_from}
use Rattle.total.specs.Finite.{sixteen}
use Rattle.total.proofs.long_sum.Given as goal

abbrev pub invariant-loop-sixteen : goal.invariant-loop-sixteen
invariant-loop-sixteen l =
    let all = l.initial.sixteen-iterator.rest.now in
    let left = l.sixteen-iterator.rest.now in
    (l.sixteen-iterator.size ≡ 16)
    × (sum_from (sixteen (vec left) 0) 0 (length left / 16) l.s ≡ sum_from (sixteen (vec all) 0) 0 (length all / 16) l.initial.s)
    × (sum_from (sixteen (vec left) 1) 0 (length left / 16) l.t ≡ sum_from (sixteen (vec all) 1) 0 (length all / 16) l.initial.t)
