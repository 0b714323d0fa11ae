-- `grid::columns::scale` meets its contract: what the kernel makes of the lent part is made of the whole. Assumes nothing.
use Rattle.grid.proofs.Parts.{scale-lent}
use borrow.Author.Rules.{rules}
use Rattle.grid.proofs.columns.scale.Goals as goal

pub returns : goal.returns
returns c = search (rules, scale-lent)
