-- What `back::less_down` owes. Assumes nothing.
use Rattle.back.proofs.Down.{down-none, down_step, down-end}
use borrow.Author.Rules.{rules}
use Rattle.back.proofs.less_down.Goals as goal

pub loop-i-init : goal.loop-i-init
loop-i-init c = (search rules, search down-none)

pub loop-i-preserved : goal.loop-i-preserved
loop-i-preserved c = (search rules, search (rules, down_step))

pub returns : goal.returns
returns c = search (rules, down-end)
