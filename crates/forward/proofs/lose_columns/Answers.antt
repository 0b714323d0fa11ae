-- What `forward::lose_columns` owes. Assumes nothing.
use Rattle.forward.proofs.Together.{column-pre, columns-none, columns-step}
use borrow.Author.Rules.{rules}
use Rattle.forward.proofs.lose_columns.Goals as goal

pub loop-k-init : goal.loop-k-init
loop-k-init c = search columns-none

pub lose_column-requires : goal.lose_column-requires
lose_column-requires c = search (rules, column-pre)

pub loop-k-preserved : goal.loop-k-preserved
loop-k-preserved c = search (rules, columns-step)
