-- Laws of the rule's two constants, by the bits that their rounded steps have. Assumes nothing.
use mathlib.Core.Path.{◌≡◌, sym, ap, ◌∙◌}
use lib.Ieee.{binary64, of_bits}
use lib.Ieee.Bits.{of_bits-to_bits}
use lib.Ieee.Fits.{div-fits, round-fits}
use Rattle.model.specs.Scalar.{growth_eps}
use Rattle.model.specs.Root.{alpha}
use Rattle.model.proofs.Constants.{alpha-bits, growth_eps-bits}

pub alpha-is : of_bits binary64 0x3FE4_7E0F_66AF_ED07 ≡ alpha
unfolding alpha
alpha-is = ap (of_bits binary64) (sym alpha-bits) ∙ of_bits-to_bits binary64 alpha (div-fits binary64 _ _)

pub growth-is : of_bits binary64 0x3D06_849B_86A1_2B9B ≡ growth_eps
unfolding growth_eps
growth-is = ap (of_bits binary64) (sym growth_eps-bits) ∙ of_bits-to_bits binary64 growth_eps (round-fits binary64 _ _ _)
