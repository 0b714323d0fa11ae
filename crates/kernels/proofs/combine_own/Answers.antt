-- What `kernels::combine_own` owes. Assumes nothing.
use Rattle.kernels.proofs.Rules.{combine-own-none, combine-own-step}
use borrow.Author.Rules.{rules}
use Rattle.kernels.proofs.combine_own.Goals as goal

pub loop-i-init : goal.loop-i-init
loop-i-init c = search (rules, combine-own-none)

pub loop-i-preserved : goal.loop-i-preserved
loop-i-preserved c = search (rules, combine-own-step)
