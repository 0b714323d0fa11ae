-- `update_sums::add_two` meets its contract. The invariant: the first i numbers have gained both terms. Assumes nothing.
use mathlib.Core.Path.{◌≡◌}
use Prim.Native.Nat.{◌≤◌}
use lib.ListN.{length}
use Rattle.model.specs.Matrix.{vec, with_part}
use Rattle.kernels.specs.Rules.{plus_times}
use Rattle.update_sums.specs.Acc.{from_row}
use Rattle.update_sums.proofs.add_two.Given as goal

abbrev pub invariant-loop-i : goal.invariant-loop-i
invariant-loop-i l =
    (l.i ≤ l.i-end) × (length l.acc ≡ length l.initial.acc)
    × (vec l.acc ≡ with_part (vec l.initial.acc) 0 l.i (plus_times (plus_times (vec l.initial.acc) (from_row (vec l.panel) l.a) l.v) (from_row (vec l.panel) l.b) l.w))
