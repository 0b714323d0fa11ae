-- `forward::lose_four` meets its contract: the kernel on the rows from lo on, which are lent. Assumes nothing.
use Rattle.model.specs.Matrix.{vec}
use Rattle.forward.proofs.Lent.{four-pre, four-lent}
use borrow.Author.Rules.{rules}
use Rattle.forward.proofs.lose_four.Goals as goal

pub less-requires : goal.less-requires
less-requires c = (search rules, (search rules, search four-pre))

pub returns : goal.returns
unfolding vec
returns c = search four-lent
