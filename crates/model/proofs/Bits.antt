-- The magnitude of bits, bit by bit: the sign's is cleared and every other kept, whatever bits there are. Assumes nothing.
use mathlib.Core.Path.{◌≡◌, sym, ap, ◌∙◌}
use Prim.Native.Nat.{ℕ, ◌<◌}
use native.Mathlib.Omega.{arith}
use mir.Syntax.{w64}
use Rattle.std.proofs.lemmas.Nat.{and_mask}
use Rattle.std.proofs.lemmas.Nat.Bits.{bit_at_clear_other}
use Rattle.std.specs.Int.{bit_at}
use Rattle.model.specs.Scalar.{magnitude_bits_of}
use Rattle.model.specs.Bits.{ClearsTheSign}
use Rattle.model.proofs.Fields.{number-cleared}

other-kept : (bits i : ℕ) → i < 63 → bit_at (magnitude_bits_of bits) i ≡ bit_at bits i
other-kept bits i h =
    ap (λ b. bit_at b i) (sym (and_mask bits 63)) ∙ bit_at_clear_other w64 bits 63 (omega arith) i (omega arith) (λ e. omega (arith, e, h))

pub clears-the-sign : ClearsTheSign
clears-the-sign bits = record { sign = omega arith; others = other-kept bits; number = number-cleared bits }
