-- What `kernels::scale_own` owes. Assumes nothing.
use Rattle.kernels.proofs.Rules.{rule-none, times-own-step}
use borrow.Author.Rules.{rules}
use Rattle.kernels.proofs.scale_own.Goals as goal

pub loop-i-init : goal.loop-i-init
loop-i-init c = search (rules, rule-none)

pub loop-i-preserved : goal.loop-i-preserved
loop-i-preserved c = search (rules, times-own-step)
