-- `greatest::row_greatest` meets its contract: the row first, then the column on top of it. Assumes nothing.
use Rattle.greatest.proofs.Squares.{row_is, row-found}
use borrow.Author.Rules.{rules}
use Rattle.greatest.proofs.row_greatest.Goals as goal

pub returns : goal.returns
returns c = record { value = search row_is; found_in = search (rules, row-found) }
