-- What makes the constants believable, and `sqrt_of` where no root is worked out: the bits of alpha, of the growth constant, of 0 and of 1; the square
-- root's special cases by name. Assumes nothing.
use mathlib.Core.Path.{◌≡◌, refl}
use mathlib.Core.Bool.{true, false}
use Prim.Native.Nat.{zero, suc, ◌+◌, ◌*◌}
use native.Mathlib.Omega.{arith}
use lib.IntN.{pos}
use lib.Ieee.{Float, nan, inf, fin, binary64, up, down, round, add, div, lt, of_bits, to_bits}
use borrow.Author.Tests.{ltb-true}
use Rattle.model.specs.Scalar.{zero_f, one_f, growth_eps}
use Rattle.model.specs.Root.{whole_root, isqrt, round_root, sqrt_of, alpha}

-- ---- the constants

pub zero_is : zero_f ≡ fin false 0 (pos 0)
unfolding of_bits
zero_is = refl

pub one-is : one_f ≡ fin false 1 (pos 0)
unfolding of_bits
one-is = refl

pub alpha-bits : to_bits binary64 alpha ≡ 0x3FE4_7E0F_66AF_ED07
unfolding alpha to_bits div add of_bits sqrt_of round_root isqrt whole_root
alpha-bits = refl

pub growth_eps-bits : to_bits binary64 growth_eps ≡ 0x3D06_849B_86A1_2B9B
unfolding growth_eps to_bits round
growth_eps-bits = refl

-- ---- the square root's special cases

pub sqrt-nan : sqrt_of nan ≡ nan
unfolding sqrt_of
sqrt-nan = refl

pub sqrt-infinity : sqrt_of (inf false) ≡ inf false
unfolding sqrt_of
sqrt-infinity = refl

pub sqrt-minus-infinity : sqrt_of (inf true) ≡ nan
unfolding sqrt_of
sqrt-minus-infinity = refl

pub sqrt-zero : sqrt_of (fin false 0 (pos 0)) ≡ fin false 0 (pos 0)
unfolding sqrt_of
sqrt-zero = refl

pub sqrt-minus-zero : sqrt_of (fin true 0 (pos 0)) ≡ fin true 0 (pos 0)
unfolding sqrt_of
sqrt-minus-zero = refl

pub sqrt-below-zero : (x : Float) → lt x zero_f ≡ true → sqrt_of x ≡ nan
unfolding sqrt_of lt of_bits
sqrt-below-zero nan h = refl
sqrt-below-zero (inf true) h = refl
sqrt-below-zero (inf false) h = cc
sqrt-below-zero (fin true zero e) h = absurd (omega (arith, ltb-true 0 (0 * up e * 1 + 0 * 1 * down e) h))
sqrt-below-zero (fin true (suc m) e) h = refl
sqrt-below-zero (fin false zero e) h = absurd (omega (arith, ltb-true (0 * up e * 1) (0 * 1 * down e) h))
sqrt-below-zero (fin false (suc m) e) h = absurd (omega (arith, ltb-true (suc m * up e * 1) (0 * 1 * down e) h))
