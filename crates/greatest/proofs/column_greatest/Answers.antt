-- `greatest::column_greatest` meets its contract: its one call is the definition. Assumes nothing.
use Rattle.greatest.proofs.Squares.{column-is, column-found}
use borrow.Author.Rules.{rules}
use Rattle.greatest.proofs.column_greatest.Goals as goal

pub returns : goal.returns
returns c = record { value = search column-is; found_in = column-found _ _ _ _ (search rules) c.greatest_down.ensures }
