-- `panels::panels` meets its contract. Invariant: the run from kb on of what the buffers hold is the run from 0 on of what they held, the record is lent
-- as it was, and the pivots before kb are noted. Measure: the columns that are left. Assumes nothing.
use Prim.Native.Nat.{◌+◌, ◌≤◌, ◌-◌}
use mathlib.Core.Path.{◌≡◌}
use Rattle.model.specs.Step.{recorded_in, SameRecord}
use Rattle.whole.specs.Whole.{whole_panels_of}
use Rattle.panels.specs.Turn.{between}
use Rattle.bunch_kaufman.specs.Terms.{NotedTo}
use Rattle.panels.proofs.panels.Given as goal

abbrev pub invariant-loop-kb : goal.invariant-loop-kb
invariant-loop-kb l = record {
  inside : l.kb ≤ l.c.ncol;
  same : SameRecord l.initial.r l.r;
  run : whole_panels_of l.how l.c.nrow l.c.ncol l.c.nb (l.c.ncol - l.kb) l.kb (between l.c.nrow l.panel (recorded_in l.r) l.rounds)
      ≡ whole_panels_of l.how l.c.nrow l.c.ncol l.c.nb l.c.ncol 0 (between l.c.nrow l.initial.panel (recorded_in l.initial.r) 0);
  noted : NotedTo l.kb (l.kb + 1) l.rounds (recorded_in l.r);
}

abbrev pub decreases-loop-kb : goal.decreases-loop-kb
decreases-loop-kb l = l.c.ncol - l.kb
