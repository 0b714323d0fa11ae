-- Laws of whole numbers, of patterns and of the numbers read one after another, on plain lists and numbers. Assumes nothing.
use mathlib.Core.Path.{◌≡◌, refl, sym, ◌∙◌}
use mathlib.Core.Bool.{Bool, true}
use mathlib.Core.List.{List}
use Prim.Native.Nat.{ℕ, ◌+◌, ◌*◌, ◌%◌, ◌<◌, ◌≤◌}
use native.Mathlib.Omega.{arith}
use borrow.Author.Tests.{lt-ltb, eqb-true, eqb-false}
use lib.Dec.{eqb}
use lib.ListN.{length, get_or, set, take, drop}
use lib.Seq.{get_or-take, get_or-drop, get_or-set_same, get_or-set_other}
use Rattle.std.specs.Int.{w16, w32, w64, from_le_bytes}
use lib.Ieee.{Float, nan, inf, fin, binary64, of_bits, to_bits, is_nan}
use lib.Ieee.Bits.{nan_bits_is, nan_bits_above}
use Rattle.model.proofs.Cases.{test}
use Rattle.model.proofs.Tabulated.{is-tabulate}
use Rattle.scalar.proofs.Leaves.{is-nan, is_nan-is}
use Rattle.little_endian.specs.LittleEndian.{le16, le32, le64, numbers_of}

-- ---- whole numbers

-- byte i of the n from place at on
byte : (n : ℕ) (s : List ℕ) (at i k : ℕ) → i < n → k ≡ at + i → get_or (take n (drop at s)) i 0 ≡ get_or s k 0
byte n s at i k h e = rw e (get_or-take n (drop at s) i 0 h ∙ get_or-drop at s i 0)

module _ (s bs : List ℕ) (at r : ℕ) where
  pub le16-is : r ≡ from_le_bytes w16 bs → bs ≡ take 2 (drop at s) → r ≡ le16 s at
  unfolding le16
  le16-is e b = rw (e, b) (omega (arith, byte 2 s at 0 at, byte 2 s at 1 (at + 1)))

  pub le32-is : r ≡ from_le_bytes w32 bs → bs ≡ take 4 (drop at s) → r ≡ le32 s at
  unfolding le32 le16
  le32-is e b = rw (e, b) (omega (arith, byte 4 s at 0 at, byte 4 s at 1 (at + 1), byte 4 s at 2 (at + 2), byte 4 s at 3 (at + 2 + 1)))

  pub le64-is : r ≡ from_le_bytes w64 bs → bs ≡ take 8 (drop at s) → r ≡ le64 s at
  unfolding le64 le32 le16
  le64-is e b =
      rw (e, b) (omega (
        arith,
        byte 8 s at 0 at,
        byte 8 s at 1 (at + 1),
        byte 8 s at 2 (at + 2),
        byte 8 s at 3 (at + 2 + 1),
        byte 8 s at 4 (at + 4),
        byte 8 s at 5 (at + 4 + 1),
        byte 8 s at 6 (at + 4 + 2),
        byte 8 s at 7 (at + 4 + 2 + 1),
      ))

-- ---- patterns

-- a pattern above an infinity's is a not-a-number's
pub above-infinity : (b : ℕ) → 0x7ff0_0000_0000_0000 < b % 0x8000_0000_0000_0000 → nan ≡ of_bits binary64 b
above-infinity b h =
    let t : is_nan (of_bits binary64 b) ≡ true = sym (nan_bits_is binary64 b) ∙ nan_bits_above binary64 b ∙ lt-ltb _ _ h in
    sym (is-nan (of_bits binary64 b) (sym (is_nan-is (of_bits binary64 b)) ∙ t))

-- the not-a-number's own pattern
pub made : of_bits binary64 0x7ff8_0000_0000_0000 ≡ nan
unfolding of_bits
made = refl

pub nan_pattern : (x : Float) (t : Bool) → t ≡ is_nan x → t ≡ true → 0x7ff8_0000_0000_0000 ≡ to_bits binary64 x
unfolding to_bits is_nan
nan_pattern nan t e h = refl
nan_pattern (inf s) t e h = cc
nan_pattern (fin s m x) t e h = cc

-- ---- numbers one after another

pub numbers-step : (xs : List Float) (s : List ℕ) (at i n : ℕ) (v : Float) → i < n → length xs ≡ n → v ≡ of_bits binary64 (le64 s (at + 8 * i))
    → ((k : ℕ) → k < i → get_or xs k nan ≡ of_bits binary64 (le64 s (at + 8 * k)))
    → (k : ℕ) → k < i + 1 → get_or (set xs i v) k nan ≡ of_bits binary64 (le64 s (at + 8 * k))
numbers-step xs s at i n v h l w e k m =
    test (eqb k i)
    (λ p. rw (eqb-true k i p) (get_or-set_same xs i v nan (omega arith) ∙ w))
    (λ p. get_or-set_other xs i k v nan (eqb-false k i p) ∙ e k (omega (arith, eqb-false k i p)))

pub numbers-end : (xs : List Float) (s : List ℕ) (at i n : ℕ) → n ≤ i → length xs ≡ n
    → ((k : ℕ) → k < i → get_or xs k nan ≡ of_bits binary64 (le64 s (at + 8 * k))) → xs ≡ numbers_of s at n
unfolding numbers_of
numbers-end xs s at i n h l e = is-tabulate n (λ k. of_bits binary64 (le64 s (at + 8 * k))) nan xs l (λ k m. e k (omega arith))
