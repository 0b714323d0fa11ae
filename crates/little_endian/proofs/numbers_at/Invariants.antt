-- `little_endian::numbers_at` meets its contract. The invariant: each place before i holds its number. Assumes nothing.
use Prim.Native.Nat.{ℕ, ◌+◌, ◌*◌, ◌<◌}
use mathlib.Core.Path.{◌≡◌}
use lib.ListN.{get_or}
use lib.Ieee.{nan, binary64, of_bits}
use Rattle.little_endian.specs.LittleEndian.{le64}
use Rattle.little_endian.proofs.numbers_at.Given as goal

abbrev pub invariant-loop-i : goal.invariant-loop-i
invariant-loop-i l = (k : ℕ) → k < l.i → get_or l.out k nan ≡ of_bits binary64 (le64 l.s (l.at + 8 * k))
