-- `back::four_down` meets its contract. The invariant: the four columns are there, and of each the rows from i on are taken. Assumes nothing.
use Prim.Native.Nat.{◌+◌, ◌-◌, ◌≤◌}
use mathlib.Core.Path.{◌≡◌}
use lib.ListN.{length}
use Rattle.model.specs.Matrix.{view, vec}
use Rattle.back.specs.Back.{fallen_whole}
use Rattle.back.proofs.four_down.Given as goal

abbrev pub invariant-loop-i : goal.invariant-loop-i
invariant-loop-i l =
    (l.lo ≤ l.i) × ((l.a + l.n ≤ length l.panel) × (l.b + l.n ≤ length l.panel) × (l.c + l.n ≤ length l.panel) × (l.d + l.n ≤ length l.panel))
    × (l.s0 ≡ fallen_whole (view (length l.x) l.panel) (vec l.x) l.k (length l.x - l.i) l.i)
    × (l.s1 ≡ fallen_whole (view (length l.x) l.panel) (vec l.x) (l.k + 1) (length l.x - l.i) l.i)
    × (l.s2 ≡ fallen_whole (view (length l.x) l.panel) (vec l.x) (l.k + 2) (length l.x - l.i) l.i)
    × (l.s3 ≡ fallen_whole (view (length l.x) l.panel) (vec l.x) (l.k + 3) (length l.x - l.i) l.i)
