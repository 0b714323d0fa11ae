-- What `order::take` owes. Assumes nothing.
use Rattle.kernels.proofs.Rules.{rule-none}
use Rattle.order.proofs.Laws.{row-there, take_step}
use borrow.Author.Rules.{rules}
use Rattle.order.proofs.take.Goals as goal

pub loop-k-init : goal.loop-k-init
loop-k-init c = search (rules, rule-none)

pub offset_bounds-vector-row : goal.offset_bounds-vector-row
offset_bounds-vector-row c = search (rules, row-there)

pub bounds-vector-row : goal.bounds-vector-row
bounds-vector-row c = search (rules, row-there)

pub loop-k-preserved : goal.loop-k-preserved
loop-k-preserved c = search (rules, take_step)
