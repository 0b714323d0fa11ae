-- Numbers as text, computed from the definitions. Assumes nothing.
use mathlib.Core.Path.{◌≡◌, refl}
use mathlib.Core.List.{[], ◌∷◌, map}
use Rattle.text.specs.Text.{decimal_from, decimal_of, hex_from, hex_of, word}

-- 0, 10 and 4096 in decimal
pub decimals-shown : map decimal_of (0 ∷ 10 ∷ 4096 ∷ []) ≡ (48 ∷ []) ∷ (49 ∷ 48 ∷ []) ∷ (52 ∷ 48 ∷ 57 ∷ 54 ∷ []) ∷ []
unfolding decimal_of decimal_from
decimals-shown = refl

-- a pattern with digits and letters
pub pattern-shown : hex_of 0x7FF8_0000_0000_00A9 ≡ 55 ∷ 70 ∷ 70 ∷ 56 ∷ 48 ∷ 48 ∷ 48 ∷ 48 ∷ 48 ∷ 48 ∷ 48 ∷ 48 ∷ 48 ∷ 48 ∷ 65 ∷ 57 ∷ []
unfolding hex_from
pattern-shown = refl

pub word-shown : word "order" ≡ 111 ∷ 114 ∷ 100 ∷ 101 ∷ 114 ∷ []
word-shown = refl
