-- `scan::mark_column` meets its contract. The invariant: the marks before i have met their number. The measure is what is left. Assumes nothing.
use Prim.Native.Nat.{◌-◌, ◌≤◌}
use mathlib.Core.Path.{◌≡◌}
use lib.ListN.{length}
use Rattle.scan.specs.Marks.{part_marked}
use Rattle.scan.proofs.mark_column.Given as goal

abbrev pub invariant-loop-i : goal.invariant-loop-i
invariant-loop-i l = (l.i ≤ l.n) × (length l.marks ≡ length l.initial.marks) × (l.marks ≡ part_marked l.initial.marks l.column l.i)

abbrev pub decreases-loop-i : goal.decreases-loop-i
decreases-loop-i l = l.n - l.i
