-- `pairs::sweep_first` meets its contract. The invariant: the columns before j are swept; the measure is what is left. Assumes nothing.
use Prim.Native.Nat.{◌≤◌, ◌-◌}
use mathlib.Core.Path.{◌≡◌}
use lib.ListN.{length}
use Rattle.model.specs.Matrix.{view}
use Rattle.swept.specs.Swept.{swept_first}
use Rattle.pairs.proofs.sweep_first.Given as goal

abbrev pub invariant-loop-j : goal.invariant-loop-j
invariant-loop-j l =
    (l.c ≤ l.j) × (l.j ≤ l.e) × (length l.part ≡ length l.initial.part)
    × (view l.at.nrow l.part ≡ swept_first l.block (view l.at.nrow l.initial.part) (view l.at.nb l.mult) l.f l.kq 0 l.c l.j 0 l.at.rows)

abbrev pub decreases-loop-j : goal.decreases-loop-j
decreases-loop-j l = l.e - l.j
