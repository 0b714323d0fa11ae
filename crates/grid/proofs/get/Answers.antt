-- `grid::get` meets its contract: the element at the offset is the view's. Assumes nothing.
use Rattle.grid.proofs.Laws.{view-read}
use borrow.Author.Rules.{rules}
use Rattle.grid.proofs.get.Goals as goal

pub returns : goal.returns
returns c = search (rules, view-read)
