-- `grid::columns::zero` meets its contract: what the kernel makes of the lent part is made of the whole. Assumes nothing.
use Rattle.kernels.proofs.Parts.{zero-lent}
use borrow.Author.Rules.{rules}
use Rattle.grid.proofs.columns.zero.Goals as goal

pub returns : goal.returns
returns c = search (rules, zero-lent)
