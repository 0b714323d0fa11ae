-- What `order::first_bad_row` owes. Assumes nothing.
use Rattle.checks.proofs.First.{first-none, first_step, first-bad, first-end}
use Rattle.order.proofs.Laws.{seen_none, seen_step, row-is-sound, row_in}
use borrow.Author.Rules.{rules}
use Rattle.order.proofs.first_bad_row.Goals as goal

pub loop-k-init : goal.loop-k-init
loop-k-init c = (search rules, search seen_none, search first-none)

pub returns-then-not-row_sound : goal.returns-then-not-row_sound
returns-then-not-row_sound c = search (rules, first-bad, row-is-sound)

pub loop-k-preserved : goal.loop-k-preserved
loop-k-preserved c = (search rules, search (rules, seen_step, row_in), search (rules, first_step, row-is-sound))

pub returns : goal.returns
returns c = search (rules, first-end)
