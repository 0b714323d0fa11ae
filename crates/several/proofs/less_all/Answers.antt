-- What `several::less_all` owes. Assumes nothing.
use native.Mathlib.Numerals.{add-one}
use mathlib.Core.Path.{refl}
use Rattle.kernels.specs.Rules.{less_all}
use Rattle.several.proofs.less_all.Goals as goal

pub loop-v-init : goal.loop-v-init
unfolding less_all
loop-v-init g c = refl

pub loop-v-preserved : goal.loop-v-preserved
unfolding less_all
loop-v-preserved g c = rw (add-one c.loop-v.v) (rw (c.loop-v.invariant, c.product-left.ensures))
