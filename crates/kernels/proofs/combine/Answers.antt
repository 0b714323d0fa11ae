-- What `kernels::combine` owes. Assumes nothing.
use Rattle.kernels.proofs.Rules.{rule-none, combine-step}
use borrow.Author.Rules.{rules}
use Rattle.kernels.proofs.combine.Goals as goal

pub loop-i-init : goal.loop-i-init
loop-i-init c = search (rules, rule-none)

pub loop-i-preserved : goal.loop-i-preserved
loop-i-preserved c = search (rules, combine-step)
