-- `kernels::scale` meets its contract. The invariant: the places before i are done by the rule. Assumes nothing.
use Prim.Native.Nat.{◌≤◌}
use mathlib.Core.Path.{◌≡◌}
use lib.ListN.{length}
use Rattle.model.specs.Matrix.{vec, with_part}
use Rattle.kernels.specs.Rules.{times}
use Rattle.kernels.proofs.scale.Given as goal

abbrev pub invariant-loop-i : goal.invariant-loop-i
invariant-loop-i l = (l.i ≤ l.n) × (length l.x ≡ length l.initial.x) × (vec l.x ≡ with_part (vec l.initial.x) 0 l.i (times (vec l.s) l.r))
