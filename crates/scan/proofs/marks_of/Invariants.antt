-- `scan::marks_of` meets its contract. Where every number is known to be finite the zeros are the marks. The invariant: the marks are those of the first j
-- columns. Assumes nothing.
use Prim.Native.Nat.{◌-◌}
use mathlib.Core.Path.{◌≡◌}
use lib.ListN.{length}
use Rattle.model.specs.Matrix.{view}
use Rattle.scan.specs.Marks.{tail_marks}
use Rattle.scan.proofs.marks_of.Given as goal

abbrev pub invariant-loop-j : goal.invariant-loop-j
invariant-loop-j l = (length l.marks ≡ l.s.nrow - l.s.ncol) × (l.marks ≡ tail_marks (view l.s.nrow l.s.panel.now) l.s.ncol l.s.nrow l.j)
