-- What `sums::gather_fours` owes. Assumes nothing.
use Rattle.sums.proofs.Sum.{fours-none, fours-step, fours-last}
use borrow.Author.Rules.{rules}
use Rattle.sums.proofs.gather_fours.Goals as goal

pub loop-t-init : goal.loop-t-init
loop-t-init c = (search rules, search rules, search fours-none, search fours-none)

pub loop-t-preserved : goal.loop-t-preserved
loop-t-preserved c = (search rules, search rules, search fours-step, search fours-step)

pub returns-2-clause-x_after : goal.returns-2-clause-x_after
returns-2-clause-x_after c = search (rules, fours-last)

pub returns-2-clause-y_after : goal.returns-2-clause-y_after
returns-2-clause-y_after c = search (rules, fours-last)
