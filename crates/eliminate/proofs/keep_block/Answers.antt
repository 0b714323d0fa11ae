-- `eliminate::keep_block` meets its contract: the two columns of the buffer, one after the other. Assumes nothing.
use Rattle.eliminate.proofs.Rows.{two-kept}
use borrow.Author.Rules.{rules}
use Rattle.eliminate.proofs.keep_block.Goals as goal

pub returns : goal.returns
returns c = search (rules, two-kept)
