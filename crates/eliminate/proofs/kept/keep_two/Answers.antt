-- `eliminate::kept::keep_two` meets its contract: the lent part of the buffer is a part of the panel's column of multipliers. Assumes nothing.
use Rattle.eliminate.proofs.Buffer.{keep-two-lent}
use borrow.Author.Rules.{rules}
use Rattle.eliminate.proofs.kept.keep_two.Goals as goal

pub returns : goal.returns
returns c = search (rules, keep-two-lent)
