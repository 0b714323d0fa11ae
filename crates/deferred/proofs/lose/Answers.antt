-- `deferred::lose` meets its contract: what the kernel makes of the lent rows is made of the column. Assumes nothing.
use Rattle.deferred.proofs.Columns.{lose-lent}
use borrow.Author.Rules.{rules}
use Rattle.deferred.proofs.lose.Goals as goal

pub returns : goal.returns
returns c = search (rules, lose-lent)
