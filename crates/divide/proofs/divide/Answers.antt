-- What `divide::divide` owes. Assumes nothing.
use Rattle.kernels.proofs.Rules.{rule-none}
use Rattle.divide.proofs.Laws.{none_before, turn_step, turn-starts, turn-within, turn-less}
use borrow.Author.Rules.{rules}
use Rattle.divide.proofs.divide.Goals as goal

pub loop-k-init : goal.loop-k-init
loop-k-init c = (search rules, none_before _, search rule-none)

pub loop-k-smaller : goal.loop-k-smaller
loop-k-smaller c = search (rules, turn-less)

pub loop-k-preserved : goal.loop-k-preserved
loop-k-preserved c = (search (rules, turn-within), search (rules, turn-starts), search (rules, turn_step))
