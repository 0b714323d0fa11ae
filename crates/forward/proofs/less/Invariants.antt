-- `forward::less` meets its contract. The invariants: the places before i are done by the rule, and number i has lost u of its multiples. Assumes nothing.
use Prim.Native.Nat.{◌+◌, ◌≤◌}
use mathlib.Core.Path.{◌≡◌}
use lib.ListN.{length, get_or}
use lib.Ieee.{nan}
use Rattle.model.specs.Matrix.{vec, naturals, with_part}
use Rattle.kernels.specs.Rules.{less_all}
use Rattle.forward.specs.Forward.{less_of}
use Rattle.forward.proofs.less.Given as goal

abbrev pub invariant-loop-i : goal.invariant-loop-i
invariant-loop-i g l =
    (l.i ≤ l.n) × (length l.x ≡ length l.initial.x)
    × (vec l.x ≡ with_part (vec l.initial.x) 0 l.i (less_of g.row.N (vec l.initial.x) (vec l.g) (naturals l.at) (vec l.m)))

abbrev pub invariant-loop-u : goal.invariant-loop-u
invariant-loop-u g l = l.v ≡ less_all l.u (get_or l.x l.i nan) (λ u. get_or l.g (naturals l.at u + l.i) nan) (vec l.m)
