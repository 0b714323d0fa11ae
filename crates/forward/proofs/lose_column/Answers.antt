-- `forward::lose_column` meets its contract: the kernel on the rows from the column's pivot on, which are lent. Assumes nothing.
use Rattle.model.specs.Matrix.{vec}
use Rattle.forward.proofs.Lent.{one-pre, column-lent}
use borrow.Author.Rules.{rules}
use Rattle.forward.proofs.lose_column.Goals as goal

pub less-requires : goal.less-requires
less-requires c = (search rules, (search rules, search one-pre))

pub returns : goal.returns
unfolding vec
returns c = search column-lent
