-- `deferred::defer_rows` meets its contract. The invariant: the columns before c have lost their sums. The measure is what is left. Assumes nothing.
use Prim.Native.Nat.{◌-◌, ◌≤◌}
use mathlib.Core.Path.{◌≡◌}
use Rattle.model.specs.Matrix.{view}
use Rattle.deferred.specs.Columns.{part_deferred}
use Rattle.deferred.proofs.defer_rows.Given as goal

abbrev pub invariant-loop-c : goal.invariant-loop-c
invariant-loop-c l =
    (l.at.ke ≤ l.c) × (l.c ≤ l.at.ncol)
    × (view l.at.nrow l.panel ≡ part_deferred (view l.at.nrow l.initial.panel) (view l.at.nrow l.g) l.at.kb (l.at.ke - l.at.kb) l.at.ke l.c l.lo l.hi)

abbrev pub decreases-loop-c : goal.decreases-loop-c
decreases-loop-c l = l.end - l.c
