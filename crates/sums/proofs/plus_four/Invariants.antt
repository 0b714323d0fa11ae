-- `sums::plus_four` meets its contract. The invariant: the four runs are there, and the places before i of both are done by the rule. Assumes nothing.
use Prim.Native.Nat.{◌+◌, ◌≤◌}
use mathlib.Core.Path.{◌≡◌}
use lib.ListN.{length}
use Rattle.model.specs.Matrix.{vec, naturals, with_part}
use Rattle.sums.specs.Sums.{plus_runs}
use Rattle.sums.proofs.plus_four.Given as goal

abbrev pub invariant-loop-i : goal.invariant-loop-i
invariant-loop-i l =
    ((l.a + l.n ≤ length l.g) × (l.b + l.n ≤ length l.g) × (l.c + l.n ≤ length l.g) × (l.d + l.n ≤ length l.g))
    × (vec l.x ≡ with_part (vec l.initial.x) 0 l.i (plus_runs (vec l.initial.x) (naturals l.fn.at) (vec l.g) (vec l.fn.l)))
    × (vec l.y ≡ with_part (vec l.initial.y) 0 l.i (plus_runs (vec l.initial.y) (naturals l.fn.at) (vec l.g) (vec l.fn.m)))
