-- `less::less_single_block` meets its contract, where the multiplier of the 1x1 is zero and where it is not. Assumes nothing.
use Rattle.model.specs.Matrix.{vec}
use Rattle.less.proofs.Column.{by-two, by-three, block-alone, block-after}
use borrow.Author.Rules.{rules}
use Rattle.less.proofs.less_single_block.Goals as goal

pub returns-then-m : goal.returns-then-m
unfolding vec
returns-then-m c = search (rules, block-alone, by-two)

pub returns : goal.returns
unfolding vec
returns c = search (rules, block-after, by-three)
