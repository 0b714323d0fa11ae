-- `less::less_step` meets its contract, for a block and for a 1x1. Assumes nothing.
use Rattle.model.specs.Matrix.{vec}
use Rattle.less.proofs.Column.{by-two, block-pre, step_block, step-single}
use borrow.Author.Rules.{rules}
use Rattle.less.proofs.less_step.Goals as goal

pub less_columns-requires : goal.less_columns-requires
less_columns-requires c = search (rules, block-pre)

pub returns-then-block : goal.returns-then-block
unfolding vec
returns-then-block c = step_block _ _ _ _ _ _ _ _ c.if-block.true (by-two _ _ 0 _ _ _ _ c.less_columns.ensures)

pub returns : goal.returns
unfolding vec
returns c = search (rules, step-single)
