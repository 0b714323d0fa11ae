-- `several::less_all` meets its contract. The invariant: y has lost the numbers before v. Assumes nothing.
use Rattle.std.proofs.Common.{◌≡◌}
use Rattle.model.specs.Matrix.{vec}
use Rattle.kernels.specs.Rules.{less_all}
use Rattle.several.specs.Several.{list_at}
use Rattle.several.proofs.less_all.Given as goal

abbrev pub invariant-loop-v : goal.invariant-loop-v
invariant-loop-v g l = l.left ≡ less_all l.v l.y (vec l.s) (list_at l.m l.u)
