-- `little_endian::number_of` meets its contract, and takes no bits of a not-a-number. Assumes nothing.
use mathlib.Core.Path.{◌∙◌}
use Rattle.std.proofs.lemmas.Float.{not_nan_f64_bits}
use Rattle.little_endian.proofs.Laws.{made, above-infinity}
use Rattle.little_endian.proofs.number_of.Goals as goal

pub returns-then-bits-gt9218868437227405312 : goal.returns-then-bits-gt9218868437227405312
returns-then-bits-gt9218868437227405312 c = made ∙ above-infinity _ c.if-bits-gt9218868437227405312.true

pub float_from_bits-result : goal.float_from_bits-result
float_from_bits-result c = not_nan_f64_bits _ c.if-bits-gt9218868437227405312.false
