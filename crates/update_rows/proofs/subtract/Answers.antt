-- What `update_rows::subtract` owes. Assumes nothing.
use mathlib.Core.Path.{◌≡◌}
use Rattle.model.specs.Matrix.{vec, naturals}
use Rattle.kernels.specs.Rules.{behind}
use Rattle.update_rows.proofs.Less.{subtract-place, less-step, less-end}
use borrow.Author.Rules.{rules}
use Rattle.update_rows.proofs.subtract.Goals as goal

pub less_at-requires : goal.less_at-requires
unfolding naturals
less_at-requires c = let e : c.from.result ≡ naturals c.args.places.now c.loop-r.r = c.from.ensures in rw e (search subtract-place)

pub loop-r-preserved : goal.loop-r-preserved
unfolding naturals vec behind
loop-r-preserved c = (search rules, search rules, search rules, search less-step)

pub returns : goal.returns
returns c = search less-end
