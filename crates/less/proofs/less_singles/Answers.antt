-- `less::less_singles` meets its contract, where a multiplier is zero and where none is. Assumes nothing.
use Rattle.model.specs.Matrix.{vec}
use Rattle.less.proofs.Column.{by-two, singles-first, singles-second, singles-both}
use borrow.Author.Rules.{rules}
use Rattle.less.proofs.less_singles.Goals as goal

pub returns-then-m : goal.returns-then-m
unfolding vec
returns-then-m c = search (rules, singles-second)

pub returns-then-m-2 : goal.returns-then-m-2
unfolding vec
returns-then-m-2 c = search (rules, singles-first)

pub returns : goal.returns
unfolding vec
returns c = search (rules, singles-both, by-two)
