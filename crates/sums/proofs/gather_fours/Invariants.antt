-- `sums::gather_fours` meets its contract. The invariant: both columns' terms before t, a multiple of 4, are in. Assumes nothing.
use Prim.Native.Nat.{◌%◌, ◌≤◌}
use mathlib.Core.Path.{◌≡◌}
use Rattle.model.specs.Matrix.{view, vec, with_part}
use Rattle.sums.specs.Sums.{later_row, rows_from, gathered}
use Rattle.sums.proofs.gather_fours.Given as goal

abbrev pub invariant-loop-t : goal.invariant-loop-t
invariant-loop-t l =
    (l.t % 4 ≡ 0) × (l.t ≤ l.end)
    × (vec l.x ≡ with_part (vec l.initial.x) 0 l.at.n
    (gathered (vec l.initial.x) (rows_from l.at.lo (view l.at.nrow l.g)) (later_row (view l.at.nrow l.panel) l.at.c l.at.kb) 0 l.t))
    × (vec l.y ≡ with_part (vec l.initial.y) 0 l.at.n
    (gathered (vec l.initial.y) (rows_from l.at.lo (view l.at.nrow l.g)) (later_row (view l.at.nrow l.panel) l.at.e l.at.kb) 0 l.t))
