-- `kernels::combine_own` meets its contract. The invariant: i places from 0 on and i from p on are done by their rules.
-- Assumes nothing.
use Prim.Native.Nat.{◌+◌, ◌≤◌}
use mathlib.Core.Path.{◌≡◌}
use lib.ListN.{length}
use Rattle.model.specs.Matrix.{vec, with_part}
use Rattle.kernels.specs.Rules.{behind, ahead, combined}
use Rattle.kernels.proofs.combine_own.Given as goal

abbrev pub invariant-loop-i : goal.invariant-loop-i
invariant-loop-i l =
    (l.i ≤ l.n) × (length l.x ≡ length l.initial.x)
    × (vec l.x ≡ with_part (with_part (vec l.initial.x) 0 l.i (combined (vec l.initial.x) (ahead l.p (vec l.initial.x)) l.d22 l.d21 l.r)) l.p (l.p + l.i)
    (combined (vec l.initial.x) (behind l.p (vec l.initial.x)) l.d11 l.d21 l.r))
