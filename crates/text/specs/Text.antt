-- Words and numbers as text. From docs/SCOPE.md, "The program node". Text is a list of ASCII codes.
-- Definitions only. Assumes nothing.
use Rattle.std.specs.Prelude.{cond, List, [], ◌∷◌, ◌++◌, ℕ, zero, suc, ◌+◌, ◌/◌, ◌%◌, ltb}
use Prim.Native.Char.{code}
use Prim.Native.String as string

-- a quoted text by the codes of its characters
abbrev pub word : string.String → List ℕ
word string.[] = []
word (string.◌∷◌ c s) = code c ∷ word s

-- the character of a digit below 16: 0 to 9, then A to F
abbrev pub digit_of : ℕ → ℕ
digit_of d = cond (ltb d 10) (48 + d) (55 + d)

-- the decimal digits of n, the most significant first, where at most k of them are looked for
unfoldable pub decimal_from : ℕ → ℕ → List ℕ
decimal_from zero n = []
decimal_from (suc k) n =
    let front = decimal_from k (n / 10) in
    cond (ltb n 10) (digit_of n ∷ []) (front ++ (digit_of (n % 10) ∷ []))

-- n in decimal, with no zero in front; "0" for 0. No number has more than n + 1 digits.
unfoldable pub decimal_of : ℕ → List ℕ
decimal_of n = decimal_from (suc n) n

-- the last k hexadecimal digits of n, the most significant first
unfoldable pub hex_from : ℕ → ℕ → List ℕ
hex_from zero n = []
hex_from (suc k) n = hex_from k (n / 16) ++ (digit_of (n % 16) ∷ [])

-- a 64-bit pattern as sixteen hexadecimal digits
abbrev pub hex_of : ℕ → List ℕ
hex_of n = hex_from 16 n
