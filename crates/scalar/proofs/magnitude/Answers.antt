-- `scalar::magnitude` meets its contract: a not-a-number is given back; any other number goes by its bits. Assumes nothing.
use denote.Floats.{passes}
use Rattle.scalar.proofs.Leaves.{no_nan, magnitude-of-nan, magnitude-by-bits, magnitude-no-nan}
use Rattle.scalar.proofs.magnitude.Goals as goal

pub returns-then-x : goal.returns-then-x
returns-then-x c = magnitude-of-nan _ c.if-x.true

pub float_to_bits-x : goal.float_to_bits-x
float_to_bits-x c = no_nan _ c.if-x.false

pub float_from_bits-result : goal.float_from_bits-result
float_from_bits-result c = magnitude-no-nan _ _ (passes _ c.well_formed.0.1) c.magnitude_bits.ensures (no_nan _ c.if-x.false)

pub returns : goal.returns
returns c = magnitude-by-bits _ _ (passes _ c.well_formed.0.1) c.magnitude_bits.ensures
