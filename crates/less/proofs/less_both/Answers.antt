-- `less::less_both` meets its contract, for each two kinds. Assumes nothing.
use Rattle.model.specs.Matrix.{vec}
use Rattle.less.proofs.Column.{by-four, blocks-pre, block-single-pre, single-block-pre, singles-pre}
use Rattle.less.proofs.Column.{both-blocks, block-then-single, single-then-block, both-singles}
use borrow.Author.Rules.{rules}
use Rattle.less.proofs.less_both.Goals as goal

pub less_columns-requires : goal.less_columns-requires
less_columns-requires c = search (rules, blocks-pre)

pub returns-then-block2 : goal.returns-then-block2
returns-then-block2 c = search (rules, both-blocks, by-four)

pub less_block_single-requires : goal.less_block_single-requires
less_block_single-requires c = search (rules, block-single-pre)

pub returns-then-block1 : goal.returns-then-block1
unfolding vec
returns-then-block1 c = search (rules, block-then-single)

pub less_single_block-requires : goal.less_single_block-requires
less_single_block-requires c = search (rules, single-block-pre)

pub returns-then-block2-2 : goal.returns-then-block2-2
unfolding vec
returns-then-block2-2 c = search (rules, single-then-block)

pub less_singles-requires : goal.less_singles-requires
less_singles-requires c = search (rules, singles-pre)

pub returns : goal.returns
unfolding vec
returns c = search (rules, both-singles)
