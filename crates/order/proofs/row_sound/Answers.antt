-- `order::row_sound` meets its contract: the definition by its tests. Assumes nothing.
use borrow.Author.Tests.{lt-ltb}
use Rattle.model.specs.Matrix.{naturals}
use Rattle.order.proofs.row_sound.Goals as goal

pub returns-then-row-n : goal.returns-then-row-n
unfolding naturals
returns-then-row-n c = rw (lt-ltb _ _ c.if-row-n.true)
