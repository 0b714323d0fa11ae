-- What `kernels::less_each` owes. Assumes nothing.
use Rattle.kernels.proofs.Rules.{rule-none, less-each-step}
use borrow.Author.Rules.{rules}
use Rattle.kernels.proofs.less_each.Goals as goal

pub loop-i-init : goal.loop-i-init
loop-i-init c = search (rules, rule-none)

pub loop-i-preserved : goal.loop-i-preserved
loop-i-preserved c = search (rules, less-each-step)
