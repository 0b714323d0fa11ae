-- Laws of numbers as text. Assumes nothing.
use mathlib.Core.Path.{◌≡◌, refl, sym, ◌∙◌}
use mathlib.Core.List.{List, [], ◌∷◌, ◌++◌, append_assoc}
use Prim.Native.Nat.{ℕ, zero, suc, ◌+◌, ◌/◌, ◌%◌, ◌^◌, ◌-◌, ◌≤◌, ◌<◌}
use native.Mathlib.Nat.{pow-suc}
use native.Mathlib.Decide.{dec_lt}
use native.Mathlib.Omega.{arith}
use borrow.Author.Tests.{lt-ltb, le-ltb}
use lib.ListN.{length, length-append}
use Rattle.std.proofs.Common.{append-nil}
use Rattle.text.specs.Text.{digit_of, decimal_from, decimal_of, hex_from}

decimal-enough : (j k n : ℕ) → n < j → n < k → decimal_from j n ≡ decimal_from k n
unfolding decimal_from
decimal-enough zero k n h l = absurd (omega arith)
decimal-enough (suc j) zero n h l = absurd (omega arith)
decimal-enough (suc j) (suc k) n h l = elim (dec_lt n 10) [
  | yes a ↦ rw (lt-ltb n 10 a)
  | no a ↦ rw (le-ltb n 10 (omega arith), decimal-enough j k (n / 10) (omega arith) (omega arith))
]

decimal-small : (n : ℕ) → n < 10 → decimal_of n ≡ digit_of n ∷ []
unfolding decimal_of decimal_from
decimal-small n h = rw (lt-ltb n 10 h)

decimal-more : (n : ℕ) → 10 ≤ n → decimal_of n ≡ decimal_of (n / 10) ++ (digit_of (n % 10) ∷ [])
unfolding decimal_of decimal_from
decimal-more n h = rw (le-ltb n 10 h, decimal-enough n (suc (n / 10)) (n / 10) (omega arith) (omega arith))

-- a number below 10 ^ k has at most k digits
decimal-length : (k n : ℕ) → n < 10 ^ suc k → length (decimal_of n) ≤ suc k
decimal-length zero n h = rw (decimal-small n h) (omega arith)
decimal-length (suc k) n h = elim (dec_lt n 10) [
  | yes a ↦ rw (decimal-small n a) (omega arith)
  | no a ↦
      let front : length (decimal_of (n / 10)) ≤ suc k = decimal-length k (n / 10) (omega (arith, pow-suc 10 (suc k))) in
      rw (decimal-more n (omega arith)) (omega (arith, length-append (decimal_of (n / 10)) (digit_of (n % 10) ∷ []), front))
]

pub decimal-front : (xs : List ℕ) {ys : List ℕ} (n : ℕ) → n < 2 ^ 64 → ys ≡ xs ++ decimal_of (n / 10) → length ys ≤ length xs + 19
decimal-front xs n h e = rw e (omega (arith, length-append xs (decimal_of (n / 10)), decimal-length 18 (n / 10) (omega arith)))

pub decimal-one : (xs : List ℕ) {ys : List ℕ} {b : ℕ} (n : ℕ) → n < 10 → b ≡ digit_of n → ys ≡ xs ++ b ∷ [] → ys ≡ xs ++ decimal_of n
decimal-one xs n h e w = rw (decimal-small n h, ← e) w

pub decimal-last : (xs ys : List ℕ) {zs : List ℕ} {b : ℕ} (n : ℕ) → 10 ≤ n → ys ≡ xs ++ decimal_of (n / 10) → b ≡ digit_of (n % 10) → zs ≡ ys ++ b ∷ []
    → zs ≡ xs ++ decimal_of n
decimal-last xs ys {b = b} n h v e w = rw (decimal-more n h, ← e) (w ∙ rw v (append_assoc xs (decimal_of (n / 10)) (b ∷ [])))

pub hex-none : (xs : List ℕ) (count n : ℕ) → count ≤ 0 → xs ≡ xs ++ hex_from count n
unfolding hex_from
hex-none xs zero n h = sym (append-nil xs)
hex-none xs (suc k) n h = absurd (omega arith)

pub hex-last : (xs ys : List ℕ) {zs : List ℕ} {b : ℕ} (count n : ℕ) → 0 < count → ys ≡ xs ++ hex_from (count - 1) (n / 16) → b ≡ digit_of (n % 16)
    → zs ≡ ys ++ b ∷ [] → zs ≡ xs ++ hex_from count n
unfolding hex_from
hex-last xs ys zero n h v e w = absurd (omega arith)
hex-last xs ys {b = b} (suc k) n h v e w =
    let one_less : suc k - 1 ≡ k = omega arith in
    rw (← e) (w ∙ rw (v, one_less) (append_assoc xs (hex_from k (n / 16)) (b ∷ [])))

pub hex-length : (k n : ℕ) → length (hex_from k n) ≡ k
unfolding hex_from
hex-length zero n = refl
hex-length (suc k) n = length-append (hex_from k (n / 16)) _ ∙ omega (arith, hex-length k (n / 16))

-- what stands after k hexadecimal digits
pub hex-end : (xs : List ℕ) {ys : List ℕ} (k n : ℕ) → ys ≡ xs ++ hex_from k n → length ys ≡ length xs + k
hex-end xs k n e = rw e (omega (arith, length-append xs (hex_from k n), hex-length k n))
