-- `several::runs_less` meets its contract. The invariants: i places of each run are done by their rules, and u numbers at the i-th place are stored.
-- Assumes nothing.
use Prim.Native.Nat.{◌≤◌}
use mathlib.Core.Path.{◌≡◌}
use lib.ListN.{length}
use Rattle.model.specs.Matrix.{vec, naturals}
use Rattle.several.specs.Several.{list_at}
use Rattle.several.proofs.Runs.{done, stored}
use Rattle.several.proofs.runs_less.Given as goal

abbrev pub invariant-loop-i : goal.invariant-loop-i
invariant-loop-i g l =
    (l.i ≤ l.n) × (length l.x ≡ length l.initial.x) × (vec l.x ≡ done (vec l.fn.x) (naturals l.from) (naturals l.to) (list_at l.m) g.row.R g.row.W l.i)

abbrev pub invariant-loop-u : goal.invariant-loop-u
invariant-loop-u g l =
    (length l.x ≡ length l.fn.x) × (vec l.x ≡ stored (vec l.fn.x) (naturals l.from) (naturals l.to) (list_at l.m) g.row.R g.row.W l.i l.u)
