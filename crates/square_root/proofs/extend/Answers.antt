-- `square_root::extend` meets its contract: with the quotient's square taken off, the root is right, or one too large. Assumes nothing.
use Rattle.square_root.proofs.Steps.{extend-right, extend-one-less}
use Rattle.square_root.proofs.extend.Goals as goal

pub returns-then-u-x : goal.returns-then-u-x
returns-then-u-x c = extend-right _ _ _ c.requires c.if-u-x.true

pub returns : goal.returns
returns c = extend-one-less _ _ _ c.requires c.if-u-x.false
