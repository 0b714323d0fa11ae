-- Numbers out of bytes, the least byte first. From docs/SCOPE.md, "The program node"; a number's bits are IEEE 754's.
-- A byte is a whole number below 256; past the list's end stands 0. Definitions only. Assumes nothing.
use Rattle.std.specs.Prelude.{ℕ, ◌+◌, ◌*◌, List, get_or, Float}
use Rattle.std.specs.Float.{binary64}
use Rattle.std.specs.Float.Ieee.{of_bits}
use Rattle.model.specs.Matrix.{tabulate}

-- two bytes from place at on
unfoldable pub le16 : List ℕ → ℕ → ℕ
le16 s at = get_or s at 0 + 0x100 * get_or s (at + 1) 0

-- four bytes
unfoldable pub le32 : List ℕ → ℕ → ℕ
le32 s at = le16 s at + 0x1_0000 * le16 s (at + 2)

-- eight bytes
unfoldable pub le64 : List ℕ → ℕ → ℕ
le64 s at = le32 s at + 0x1_0000_0000 * le32 s (at + 4)

-- n numbers, eight bytes each: any pattern of a not-a-number is the one not-a-number
unfoldable pub numbers_of : List ℕ → ℕ → ℕ → List Float
numbers_of s at n = tabulate n (λ k. of_bits binary64 (le64 s (at + 8 * k)))
