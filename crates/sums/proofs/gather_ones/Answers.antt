-- What `sums::gather_ones` owes. Assumes nothing.
use Rattle.sums.proofs.Sum.{ones_none, ones_step}
use borrow.Author.Rules.{rules}
use Rattle.sums.proofs.gather_ones.Goals as goal

pub loop-t-init : goal.loop-t-init
loop-t-init c = search ones_none

pub loop-t-preserved : goal.loop-t-preserved
loop-t-preserved c = search (rules, ones_step)
