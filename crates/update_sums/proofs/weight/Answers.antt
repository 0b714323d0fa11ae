-- `update_sums::weight` meets its contract: the definition by its tests. Assumes nothing.
use Rattle.model.specs.Matrix.{vec}
use Rattle.update_sums.proofs.Numbers.{weight-first, weight-second, weight-plain}
use Rattle.update_sums.proofs.weight.Goals as goal

pub returns-then-block_begins : goal.returns-then-block_begins
unfolding vec
returns-then-block_begins c = weight-first c.args.k _ _ _ c.get-l.ensures _ c.block_begins.ensures _ c.if-block_begins.true c.get.ensures

pub returns-then-ends_block : goal.returns-then-ends_block
unfolding vec
returns-then-ends_block c = weight-second c.args.k _ _ _ c.get-l.ensures _ c.block_begins.ensures c.if-block_begins.false _ c.ends_block.ensures _ c.if-ends_block.true c.get-then-ends_block.ensures

pub returns : goal.returns
unfolding vec
returns c = weight-plain c.args.k _ _ _ c.get-l.ensures _ c.block_begins.ensures c.if-block_begins.false _ c.ends_block.ensures c.if-ends_block.false
