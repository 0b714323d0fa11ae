-- `soundness::first_unsound` meets its contract. The invariant: the check of the columns from k on is that of all of them. Assumes nothing.
use Prim.Native.Nat.{◌-◌}
use mathlib.Core.Path.{◌≡◌}
use Rattle.model.specs.Matrix.{view}
use Rattle.model.specs.Step.{diagonals_in}
use Rattle.model.specs.Factor.{result_check}
use Rattle.soundness.proofs.first_unsound.Given as goal

abbrev pub invariant-loop-k : goal.invariant-loop-k
invariant-loop-k l =
    result_check l.s.ncol (diagonals_in l.x) (view l.s.nrow l.s.panel.now) (l.s.ncol - l.k) l.k
    ≡ result_check l.s.ncol (diagonals_in l.x) (view l.s.nrow l.s.panel.now) l.s.ncol 0
