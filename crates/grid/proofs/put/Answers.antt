-- `grid::put` meets its contract: the store is the view's update. Assumes nothing.
use Rattle.grid.proofs.Laws.{view-written}
use borrow.Author.Rules.{rules}
use Rattle.grid.proofs.put.Goals as goal

pub returns : goal.returns
returns c = search (rules, view-written)
