-- `pairs::column_first` meets its contract: the multipliers are those of the row that the column stood in. Assumes nothing.
use Rattle.model.specs.Matrix.{vec}
use Rattle.less.proofs.Column.{first-turn}
use borrow.Author.Rules.{rules}
use Rattle.pairs.proofs.column_first.Goals as goal

pub returns : goal.returns
unfolding vec
returns c = search (rules, first-turn)
