-- `update_rows::subtract` meets its contract. The invariant: going on from row r with the panel as it is gives what the whole loop gives. Assumes
-- nothing.
use mathlib.Core.Path.{◌≡◌}
use Prim.Native.Nat.{◌-◌, ◌≤◌}
use lib.ListN.{length}
use Rattle.model.specs.Matrix.{view, vec, naturals}
use Rattle.kernels.specs.Rules.{behind}
use Rattle.update_rows.specs.Apply.{less_from}
use Rattle.update_rows.proofs.subtract.Given as goal

abbrev pub invariant-loop-r : goal.invariant-loop-r
invariant-loop-r l =
    (l.lo ≤ l.r) × (l.r ≤ l.hi) × (length l.panel ≡ length l.initial.panel)
    × (less_from (naturals l.places) (behind l.lo (vec l.acc)) l.column.0 (l.hi - l.r) l.r (view l.nrow l.panel)
    ≡ less_from (naturals l.places) (behind l.lo (vec l.acc)) l.column.0 (l.hi - l.lo) l.lo (view l.nrow l.initial.panel))
