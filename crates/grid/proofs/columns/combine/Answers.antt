-- `grid::columns::combine` meets its contract: what the kernel makes of the lent part is made of the whole. Assumes nothing.
use Rattle.grid.proofs.Parts.{combine-lent}
use borrow.Author.Rules.{rules}
use Rattle.grid.proofs.columns.combine.Goals as goal

pub returns : goal.returns
returns c = search (rules, combine-lent)
