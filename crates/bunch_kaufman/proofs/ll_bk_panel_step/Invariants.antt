-- `bunch_kaufman::ll_bk_panel_step` meets its contract. The invariant: what the steps left to do make of the present state is what all of them make of
-- the first; the rounds keep to the columns done; the record is lent as it was. The measure is the columns left. Assumes nothing.
use Prim.Native.Nat.{◌≤◌, ◌*◌, ◌-◌}
use mathlib.Core.Path.{◌≡◌}
use Rattle.model.specs.Sizes.{most_columns, most_rounds}
use Rattle.model.specs.Step.{recorded_in, SameRecord}
use Rattle.model.specs.Head.{panel_of}
use Rattle.bunch_kaufman.specs.Slices.{state}
use Rattle.bunch_kaufman.proofs.ll_bk_panel_step.Given as goal

abbrev pub invariant-loop-k : goal.invariant-loop-k
invariant-loop-k l = record {
  small : l.at.ke ≤ most_columns;
  from : l.at.kb ≤ l.k;
  to : l.k ≤ l.at.ke;
  few : l.rounds ≤ most_rounds * l.k;
  same : SameRecord l.initial.r l.r;
  run : panel_of l.at.ke l.how (l.at.ke - l.k) l.k (state l.at l.panel l.mult (recorded_in l.r) l.rounds)
      ≡ panel_of l.at.ke l.how (l.at.ke - l.at.kb) l.at.kb (state l.at l.initial.panel l.initial.mult (recorded_in l.initial.r) l.before);
}

abbrev pub decreases-loop-k : goal.decreases-loop-k
decreases-loop-k l = l.at.ke - l.k
