-- `scan::column_finite` meets its contract: what is lent is the column's rows. Assumes nothing.
use Rattle.scan.proofs.Finite.{column-lent}
use borrow.Author.Rules.{rules}
use Rattle.scan.proofs.column_finite.Goals as goal

pub returns : goal.returns
returns c = search (rules, column-lent)
