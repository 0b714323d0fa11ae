-- What `eliminate::sweeps::sweep_one` owes. Assumes nothing.
use Rattle.eliminate.proofs.Region.{sweep-one-none, sweep-one-step}
use borrow.Author.Rules.{rules}
use Rattle.eliminate.proofs.sweeps.sweep_one.Goals as goal

pub loop-j-init : goal.loop-j-init
loop-j-init c = search (rules, sweep-one-none)

pub loop-j-preserved : goal.loop-j-preserved
loop-j-preserved c = search (rules, sweep-one-step)
