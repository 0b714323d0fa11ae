-- What `settle::raised` owes. Assumes nothing.
use Rattle.settle.proofs.Laws.{raised-step, raised-enough, raised-out}
use borrow.Author.Rules.{rules}
use Rattle.settle.proofs.raised.Goals as goal

pub loop-done-preserved : goal.loop-done-preserved
loop-done-preserved c =
    raised-step _ _ _ _ _ _ _ _ c.loop-done.invariant c.loop-done-test.true c.block_of-block.ensures c.magnitude.ensures c.if-magnitude-bar.true

pub returns-else-magnitude-bar : goal.returns-else-magnitude-bar
returns-else-magnitude-bar c = search (rules, raised-enough)

pub returns : goal.returns
returns c = search (rules, raised-out)
