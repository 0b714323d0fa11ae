-- `pairs::column_both` meets its contract: the first pivot's multipliers are those of the row that the column stood in. Assumes nothing.
use Rattle.model.specs.Matrix.{vec}
use Rattle.less.proofs.Column.{both-turn}
use Rattle.swept.proofs.Sweeps.{placed, second-kept, second-kept-next}
use borrow.Author.Rules.{rules}
use Rattle.pairs.proofs.column_both.Goals as goal

pub get-m3-requires : goal.get-m3-requires
get-m3-requires c = search (rules, second-kept)

pub overflow_add-pair : goal.overflow_add-pair
overflow_add-pair c = let at = placed c.requires.pair_pre in search rules

pub get-m4-requires : goal.get-m4-requires
get-m4-requires c = search (rules, second-kept-next)

pub returns : goal.returns
unfolding vec
returns c = search (rules, both-turn)
