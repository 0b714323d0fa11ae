-- What `order::put_back` owes. Assumes nothing.
use Rattle.order.proofs.Laws.{row-there, back_step, back_end}
use borrow.Author.Rules.{rules}
use Rattle.order.proofs.put_back.Goals as goal

pub offset_bounds-vector-row : goal.offset_bounds-vector-row
offset_bounds-vector-row c = search (rules, row-there)

pub bounds-vector-row : goal.bounds-vector-row
bounds-vector-row c = search (rules, row-there)

pub loop-k-preserved : goal.loop-k-preserved
loop-k-preserved c = search (rules, back_step)

pub returns : goal.returns
returns c = search back_end
