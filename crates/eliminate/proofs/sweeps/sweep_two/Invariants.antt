-- `eliminate::sweeps::sweep_two` meets its contract. The invariant: the columns before j are swept. Assumes nothing.
use Prim.Native.Nat.{◌+◌, ◌≤◌}
use mathlib.Core.Path.{◌≡◌}
use lib.ListN.{length}
use Rattle.model.specs.Matrix.{view}
use Rattle.grid.specs.Rules.{column_of}
use Rattle.eliminate.specs.Eliminate.{in_panel, swept_two}
use Rattle.eliminate.proofs.sweeps.sweep_two.Given as goal

abbrev pub invariant-loop-j : goal.invariant-loop-j
invariant-loop-j l =
    let at = l.s.at in
    (l.s.k + 2 ≤ l.j) × (l.j ≤ at.ke) × (length l.panel ≡ length l.initial.panel) ×
    (view at.nrow l.panel ≡ swept_two (view at.nrow l.initial.panel) (column_of (in_panel at.kb at.ke (view at.nb l.mult)) l.s.k)
    (column_of (in_panel at.kb at.ke (view at.nb l.mult)) (l.s.k + 1)) l.s.k l.j l.s.lo l.s.hi)
