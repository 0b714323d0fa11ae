-- `rule::PivotRule::reaches` meets its contract: all that is asked of its factor is that it is finite and not negative. Assumes nothing.
use mathlib.Core.Path.{refl}
use mathlib.Core.Bool.{false}
use Prim.Native.Nat.{◌^◌}
use lib.Pow.{pow_pos}
use lib.Ieee.{binary64, of_bits}
use lib.Ieee.Exact.{HasValue}
use denote.Floats.{passes}
use Rattle.rule.proofs.Reach.{reached}
use Rattle.rule.proofs.PivotRule.reaches.Goals as goal

factor : HasValue (of_bits binary64 0x3FF8_FC1E_CD5F_DA0D) false 0x18_FC1E_CD5F_DA0D (2 ^ 52)
unfolding of_bits
factor = (refl, refl)

pub returns : goal.returns
returns c = reached _ _ _ (pow_pos 52) factor _ _ _ c.threshold.ensures c.requires (passes _ c.well_formed.1.0.1)
