-- `deferred::defer_columns` meets its contract. The invariant: the rows before lo have lost their sums. The measure is what is left. Assumes nothing.
use Prim.Native.Nat.{◌-◌, ◌≤◌}
use mathlib.Core.Path.{◌≡◌}
use lib.ListN.{length}
use Rattle.model.specs.Matrix.{view}
use Rattle.deferred.specs.Columns.{part_deferred}
use Rattle.deferred.proofs.defer_columns.Given as goal

abbrev pub invariant-loop-lo : goal.invariant-loop-lo
invariant-loop-lo l =
    (l.at.ke ≤ l.lo) × (l.lo ≤ l.at.nrow) × (length l.panel ≡ length l.initial.panel)
    × (view l.at.nrow l.panel ≡ part_deferred (view l.at.nrow l.initial.panel) (view l.at.nrow l.g) l.at.kb (l.at.ke - l.at.kb) l.at.ke l.at.ncol l.at.ke l.lo)

abbrev pub decreases-loop-lo : goal.decreases-loop-lo
decreases-loop-lo l = l.at.nrow - l.lo
