-- What `scan::mark_column` owes. Assumes nothing.
use Rattle.scan.proofs.Marks.{part_none, part_step}
use borrow.Author.Rules.{rules}
use Rattle.scan.proofs.mark_column.Goals as goal

pub loop-i-init : goal.loop-i-init
loop-i-init c = search (rules, part_none)

pub loop-i-preserved : goal.loop-i-preserved
loop-i-preserved c = search (rules, part_step)
