-- What `forward::lose_by_fours` owes. Assumes nothing.
use Rattle.forward.proofs.Together.{fours-none, fours-step}
use borrow.Author.Rules.{rules}
use Rattle.forward.proofs.lose_by_fours.Goals as goal

pub loop-f-init : goal.loop-f-init
loop-f-init c = search fours-none

pub loop-f-preserved : goal.loop-f-preserved
loop-f-preserved c = search (rules, fours-step)
