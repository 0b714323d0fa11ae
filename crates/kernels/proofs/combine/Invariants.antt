-- `kernels::combine` meets its contract. The invariant: the places before i are done by the rule. Assumes nothing.
use Prim.Native.Nat.{◌≤◌}
use mathlib.Core.Path.{◌≡◌}
use lib.ListN.{length}
use Rattle.model.specs.Matrix.{vec, with_part}
use Rattle.kernels.specs.Rules.{combined}
use Rattle.kernels.proofs.combine.Given as goal

abbrev pub invariant-loop-i : goal.invariant-loop-i
invariant-loop-i l = (l.i ≤ l.n) × (length l.x ≡ length l.initial.x) × (vec l.x ≡ with_part (vec l.initial.x) 0 l.i (combined (vec l.s) (vec l.t) l.p l.q l.r))
