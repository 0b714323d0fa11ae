-- `divide::divide_pivot` meets its contract: a block by its two numbers, a 1x1 by its own. Assumes nothing.
use Rattle.model.specs.Matrix.{vec}
use Rattle.divide.proofs.Laws.{two-divided, one-divided}
use Rattle.divide.proofs.divide_pivot.Goals as goal

pub returns-then-block_begins : goal.returns-then-block_begins
returns-then-block_begins c = search two-divided

pub returns : goal.returns
unfolding vec
returns c = search one-divided
