-- What `back::back_by_fours` owes. Assumes nothing.
use Rattle.back.proofs.Turns.{fours-step, fours-end}
use borrow.Author.Rules.{rules}
use Rattle.back.proofs.back_by_fours.Goals as goal

pub loop-f-preserved : goal.loop-f-preserved
loop-f-preserved c = search (rules, fours-step)

pub returns : goal.returns
returns c = search (rules, fours-end)
