-- `scalar::is_finite` meets its contract: a finite number lies between the two infinities. Assumes nothing.
use lib.Ieee.{div, neg, of_bits}
use Rattle.scalar.proofs.Leaves.{below-infinity, not-below-infinity}
use Rattle.scalar.proofs.is_finite.Goals as goal

pub returns-then-x-infinity : goal.returns-then-x-infinity
unfolding div neg of_bits
returns-then-x-infinity c = below-infinity _ c.if-x-infinity.true

pub returns : goal.returns
unfolding div neg of_bits
returns c = not-below-infinity _ c.if-x-infinity.false
