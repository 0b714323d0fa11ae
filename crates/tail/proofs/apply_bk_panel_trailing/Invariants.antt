-- `tail::apply_bk_panel_trailing` meets its contract. The invariant: a pivot begins at k, and the steps from k on make of the panel what all steps make of
-- it as it was; the measure is the columns that are left. Assumes nothing.
use Prim.Native.Nat.{◌≤◌, ◌-◌}
use mathlib.Core.Path.{◌≡◌}
use lib.ListN.{length}
use Rattle.model.specs.Matrix.{view}
use Rattle.model.specs.Kept.{Starts}
use Rattle.whole.specs.Whole.{below}
use Rattle.tail.specs.Tail.{blocks_in, steps_left_in}
use Rattle.tail.proofs.apply_bk_panel_trailing.Given as goal

abbrev pub invariant-loop-k : goal.invariant-loop-k
invariant-loop-k l =
    (l.at.kb ≤ l.k) × Starts (blocks_in l.steps) l.k × (length l.panel ≡ length l.initial.panel)
    × (below l.at.ke l.at.nrow (steps_left_in l.at l.steps l.k) (view l.at.nrow l.panel)
    ≡ below l.at.ke l.at.nrow (steps_left_in l.at l.steps l.at.kb) (view l.at.nrow l.initial.panel))

abbrev pub decreases-loop-k : goal.decreases-loop-k
decreases-loop-k l = l.at.ke - l.k
