-- `total::lower_sum` meets its contract. The invariant: what is left of the sum, on top of that so far, is the whole of it. The measure is what is left.
-- Assumes nothing.
use Prim.Native.Nat.{◌-◌, ◌≤◌}
use mathlib.Core.Path.{◌≡◌}
use Rattle.model.specs.Matrix.{view}
use Rattle.model.specs.Panel.{sum_from}
use Rattle.total.specs.Finite.{column_sum}
use Rattle.total.proofs.lower_sum.Given as goal

abbrev pub invariant-loop-j : goal.invariant-loop-j
invariant-loop-j l =
    (l.j ≤ l.ncol) × (sum_from (column_sum (view l.nrow l.panel) l.nrow) l.j (l.ncol - l.j) l.s ≡ sum_from (column_sum (view l.nrow l.panel) l.nrow) 0 l.ncol l.initial.s)

abbrev pub decreases-loop-j : goal.decreases-loop-j
decreases-loop-j l = l.ncol - l.j
