-- The number that a magnitude's bits stand for, by the three fields of bits. Apart from Bits.antt, since the code goes by this alone. Assumes nothing.
use mathlib.Core.Path.{◌≡◌, refl, sym}
use mathlib.Core.Bool.{Bool, true, false, cond}
use Prim.Native.Nat.{ℕ, zero, suc, ◌+◌, ◌/◌, ◌%◌, ◌^◌}
use native.Mathlib.Omega.{arith}
use lib.Dec.{eqb, leb}
use lib.Ieee.{Float, nan, inf, binary64, of_bits, of_fields, odd, prec, low, ones, hid}
use borrow.Author.Tests.{lt-leb}
use Rattle.model.specs.Scalar.{magnitude_of, magnitude_bits_of}

odd-cleared : (d : ℕ) (s : Bool) (q k l : ℕ) → magnitude_of (odd d s q k l) ≡ odd d false q k l
unfolding odd magnitude_of
odd-cleared d s zero k l = refl
odd-cleared d s (suc q) k l = refl

either-cleared : (b c s : Bool) (x y : Float) → magnitude_of x ≡ y → magnitude_of (cond b (cond c (inf s) nan) x) ≡ cond b (cond c (inf false) nan) y
unfolding magnitude_of
either-cleared true true s x y e = refl
either-cleared true false s x y e = refl
either-cleared false c s x y e = e

fields-cleared : (s : Bool) (x t : ℕ) → magnitude_of (of_fields binary64 s x t) ≡ of_fields binary64 false x t
unfolding of_fields
fields-cleared s zero t = odd-cleared (prec binary64) s t 0 (low binary64)
fields-cleared s (suc x) t =
    either-cleared (eqb (suc x) (ones binary64)) (eqb t 0) s _ _ (odd-cleared (prec binary64) s (hid binary64 + t) x (low binary64))

pub number-cleared : (bits : ℕ) → of_bits binary64 (magnitude_bits_of bits) ≡ magnitude_of (of_bits binary64 bits)
unfolding of_bits
number-cleared bits =
    let cleared = magnitude_bits_of bits in
    let sign : leb (2 ^ 63) cleared ≡ false = lt-leb _ _ (omega arith) in
    let exponent : cleared % 2 ^ 63 / 2 ^ 52 ≡ bits % 2 ^ 63 / 2 ^ 52 = omega arith in
    let fraction : cleared % 2 ^ 52 ≡ bits % 2 ^ 52 = omega arith in
    rw (sign, exponent, fraction) (sym (fields-cleared (leb (2 ^ 63) bits) (bits % 2 ^ 63 / 2 ^ 52) (bits % 2 ^ 52)))
