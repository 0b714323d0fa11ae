-- `update_sums::sum` meets its contract. The invariant: the rows' numbers are their sums over the first 2·pair columns. Assumes nothing.
use mathlib.Core.Path.{◌≡◌}
use Prim.Native.Nat.{◌*◌, ◌-◌}
use lib.ListN.{length}
use Rattle.model.specs.Matrix.{vec, with_part}
use Rattle.update_sums.specs.Acc.{sums_in, from_row}
use Rattle.update_sums.proofs.sum.Given as goal

abbrev pub invariant-loop-pair : goal.invariant-loop-pair
invariant-loop-pair l =
    (length l.acc ≡ length l.initial.acc)
    × (vec l.acc ≡ with_part (vec l.initial.acc) 0 (l.hi - l.lo) (from_row (sums_in l.k (2 * l.pair) l.row.0) l.lo))
