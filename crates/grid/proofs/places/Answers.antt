-- What `grid::places` owes. Assumes nothing.
use Prim.Native.Nat.{ℕ, ◌+◌}
use mathlib.Core.Path.{◌∙◌, ap}
use lib.ListN.{length-set}
use Rattle.model.specs.Matrix.{column_start}
use Rattle.grid.proofs.Together.{places-step}
use Rattle.grid.proofs.places.Goals as goal

pub loop-u-preserved : goal.loop-u-preserved
loop-u-preserved g c = let a = c.args in
    let at = c.loop-u.invariant in (
      length-set _ _ _ ∙ at.0,
      places-step c.loop-u.at c.loop-u.u _ g.row.N (λ v. a.lo + column_start a.nrow (a.j + v)) at.0 c.loop-u-test.true at.1 (ap (λ (k : ℕ). a.lo + k) c.column_start.ensures),
    )
