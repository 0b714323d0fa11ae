-- `scan::mark_tail` meets its contract: a column that is finite leaves the marks, and of any other the part below the head is lent. Assumes nothing.
use Rattle.scan.proofs.Marks.{tail-finite, tail-lent}
use borrow.Author.Rules.{rules}
use Rattle.scan.proofs.mark_tail.Goals as goal

pub returns-then-column_finite : goal.returns-then-column_finite
returns-then-column_finite c = search (rules, tail-finite)

pub returns : goal.returns
returns c = search (rules, tail-lent)
