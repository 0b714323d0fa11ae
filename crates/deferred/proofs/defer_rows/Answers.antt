-- What `deferred::defer_rows` owes. Assumes nothing.
use Rattle.deferred.proofs.Parts.{columns-none, columns-step, columns-end}
use borrow.Author.Rules.{rules}
use Rattle.deferred.proofs.defer_rows.Goals as goal

pub loop-c-init : goal.loop-c-init
loop-c-init c = (search rules, search rules, search columns-none)

pub loop-c-preserved : goal.loop-c-preserved
loop-c-preserved c = (search rules, search rules, search columns-step)

pub returns : goal.returns
returns c = search columns-end
