-- `sums::gather_ones` meets its contract. The invariant: the terms before t are in. Assumes nothing.
use Prim.Native.Nat.{◌-◌}
use mathlib.Core.Path.{◌≡◌}
use Rattle.model.specs.Matrix.{view, vec, with_part}
use Rattle.sums.specs.Sums.{later_row, rows_from, gathered}
use Rattle.sums.proofs.gather_ones.Given as goal

abbrev pub invariant-loop-t : goal.invariant-loop-t
invariant-loop-t l =
    vec l.x ≡ with_part (vec l.initial.x) 0 l.at.n
    (gathered (vec l.initial.x) (rows_from l.at.lo (view l.at.nrow l.g)) (later_row (view l.at.nrow l.panel) l.j l.at.kb) l.s (l.t - l.s))
