-- `kernels::less_ahead` meets its contract. The invariants: i places from q on are done by the rule, and number q + i has lost u of its multiples.
-- Assumes nothing.
use Prim.Native.Nat.{◌+◌, ◌≤◌}
use mathlib.Core.Path.{◌≡◌}
use lib.ListN.{length, get_or}
use lib.Ieee.{nan}
use Rattle.model.specs.Matrix.{vec, naturals, with_part}
use Rattle.kernels.specs.Rules.{less_all, less_runs}
use Rattle.kernels.proofs.less_ahead.Given as goal

abbrev pub invariant-loop-i : goal.invariant-loop-i
invariant-loop-i g l =
    (l.i ≤ l.n) × (length l.x ≡ length l.initial.x)
    × (vec l.x ≡ with_part (vec l.initial.x) l.q (l.q + l.i) (less_runs g.row.N (vec l.initial.x) l.q (naturals l.at) (vec l.m)))

abbrev pub invariant-loop-u : goal.invariant-loop-u
invariant-loop-u g l = l.y ≡ less_all l.u (get_or l.x (l.q + l.i) nan) (λ u. get_or l.x (naturals l.at u + l.i) nan) (vec l.m)
