-- `scalar::magnitude_bits` meets its contract: the mask of 63 ones is the remainder by 2 ^ 63. Assumes nothing.
use Rattle.std.proofs.lemmas.Nat.{and_mask}
use Rattle.scalar.proofs.magnitude_bits.Goals as goal

pub returns : goal.returns
returns c = and_mask _ 63
