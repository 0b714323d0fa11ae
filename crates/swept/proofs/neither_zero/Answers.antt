-- `swept::neither_zero` meets its contract. Assumes nothing.
use mathlib.Core.Path.{refl}
use lib.Ieee.{ne, of_bits}
use Rattle.swept.specs.Swept.{neither_zero}
use Rattle.swept.proofs.neither_zero.Goals as goal

pub returns : goal.returns
unfolding neither_zero ne of_bits
returns c = refl
