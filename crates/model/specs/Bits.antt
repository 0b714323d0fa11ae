-- What the magnitude does to each bit of a number, from docs/SCOPE.md, "The leaves". Bit i is worth 2 ^ i, and bit 63 is the sign's. Every natural below
-- 2 ^ 64 is the bits of a number, an infinity, or a not-a-number of some sign and payload. `ClearsTheSign` is the statement; proofs/Bits.antt proves it.
-- Definitions only. Assumes nothing.
use Rattle.std.specs.Prelude.{◌≡◌, ℕ, ◌<◌}
use Rattle.std.specs.Int.{bit_at}
use lib.Ieee.{binary64, of_bits}
use Rattle.model.specs.Scalar.{magnitude_of, magnitude_bits_of}

-- bit 63 is 0, the 63 below it are what they were, and what the bits stand for is the magnitude of what they stood for
pub record SignCleared (bits cleared : ℕ) : Type 0 where
  pub sign : bit_at cleared 63 ≡ 0
  pub others : (i : ℕ) → i < 63 → bit_at cleared i ≡ bit_at bits i
  pub number : of_bits binary64 cleared ≡ magnitude_of (of_bits binary64 bits)

-- of whatever bits, a not-a-number's too
abbrev pub ClearsTheSign : Type 0
ClearsTheSign = (bits : ℕ) → SignCleared bits (magnitude_bits_of bits)
