-- `scalar::maximum` meets its contract. Assumes nothing.
use Rattle.model.specs.Scalar.{maximum_of}
use Rattle.scalar.proofs.Leaves.{is_nan-is}
use Rattle.scalar.proofs.maximum.Goals as goal

pub returns-then-a : goal.returns-then-a
unfolding maximum_of
returns-then-a c = simp (is_nan-is, c.if-a.true)

pub returns-then-a-b : goal.returns-then-a-b
unfolding maximum_of
returns-then-a-b c = simp (is_nan-is, c.if-a.false, c.if-a-b.true)

pub returns-else-a-b : goal.returns-else-a-b
unfolding maximum_of
returns-else-a-b c = simp (is_nan-is, c.if-a.false, c.if-a-b.false)
