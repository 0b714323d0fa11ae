-- What `buffers::in_order` owes: every place holds itself at the end. Assumes nothing.
use Rattle.buffers.proofs.Buffers.{order-end}
use borrow.Author.Rules.{rules}
use Rattle.buffers.proofs.in_order.Goals as goal

pub returns : goal.returns
returns c = search (rules, order-end)
