-- What `scan::all_finite` owes. Assumes nothing.
use Rattle.scan.proofs.Finite.{all_none, all-step, all_end}
use borrow.Author.Rules.{rules}
use Rattle.scan.proofs.all_finite.Goals as goal

pub loop-x-init : goal.loop-x-init
loop-x-init c = search (rules, all_none)

pub loop-x-preserved : goal.loop-x-preserved
loop-x-preserved c = search (rules, all-step)

pub returns : goal.returns
returns c = search (rules, all_end)
