-- `sums::four_multipliers` meets its contract: four reads. Assumes nothing.
use Prim.Native.Nat.{◌+◌}
use native.Mathlib.Omega.{arith}
use mathlib.Core.Path.{◌∙◌, ap}
use Rattle.model.specs.Matrix.{vec, view}
use Rattle.sums.proofs.Sum.{each-of-four}
use Rattle.sums.proofs.four_multipliers.Goals as goal

pub returns : goal.returns
unfolding vec
returns c = let g = c.args in
    each-of-four _ (λ u. view g.nrow g.panel.now g.r (g.k + u)) (c.get.ensures ∙ ap (view g.nrow g.panel.now g.r) (omega arith)) c.get-2.ensures c.get-3.ensures
    c.get-4.ensures
