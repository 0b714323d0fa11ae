-- `update_rows::update_row` meets its contract: a row that does not land changes nothing. Of one that does, the invariant: going on from row lo with the
-- panel as it is gives what all parts give. The measure is what is left of the rows. Assumes nothing.
use mathlib.Core.Path.{◌≡◌}
use Prim.Native.Nat.{◌+◌, ◌-◌, ◌≤◌, ◌<◌}
use lib.ListN.{length}
use Rattle.model.specs.Matrix.{view, naturals}
use Rattle.landing.specs.Nodes.{descendant_in}
use Rattle.update_sums.specs.Acc.{sums_of, from_row}
use Rattle.update_rows.specs.Apply.{less_from}
use Rattle.update_rows.proofs.update_row.Given as goal

abbrev pub invariant-loop-lo : goal.invariant-loop-lo
invariant-loop-lo l =
    (l.c ≤ l.lo) × (l.lo ≤ l.k.mk) × (l.column.0 < l.t.ncol) × (length l.panel ≡ length l.initial.panel) × (length l.acc ≡ length l.initial.acc)
    × (less_from (naturals l.places) (from_row (sums_of (descendant_in l.k) l.k.nk (l.k.nk + l.c)) l.k.nk) l.column.0 (l.k.mk - l.lo) l.lo (view l.t.nrow l.panel)
    ≡ less_from (naturals l.places) (from_row (sums_of (descendant_in l.k) l.k.nk (l.k.nk + l.c)) l.k.nk) l.column.0 (l.k.mk - l.c) l.c
    (view l.t.nrow l.initial.panel))

abbrev pub decreases-loop-lo : goal.decreases-loop-lo
decreases-loop-lo l = l.k.mk - l.lo
