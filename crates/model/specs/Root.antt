-- The square root, correctly rounded as IEEE 754 says, and alpha by its rounded steps. From docs/SCOPE.md, "The leaves".
-- proofs/Nearest.antt has the law that no finite number is nearer to the root. Definitions only. Assumes nothing.
use Rattle.std.specs.Prelude.{true, false, cond, leb, pos, Float}
use Prim.Native.Nat.{ℕ, zero, suc, ◌+◌, ◌-◌, ◌*◌, ◌/◌, ◌^◌, compare}
use Rattle.std.specs.Float.{nan, inf, fin, binary64}
use Rattle.std.specs.Float.Ieee.{prec, low, up, down, size, nearest, units}
use Rattle.model.specs.Scalar.{◌⊕◌, ◌⊘◌, one_f}

abbrev pub square : ℕ → ℕ
square a = a * a

-- r, or r + 1 if its square is at most n
abbrev pub digit : ℕ → ℕ → ℕ
digit n r = cond (leb (square (r + 1)) n) (r + 1) r

-- the whole part of the square root of an n below 4 ^ d, by d binary digits: all but the last are those of the root of n / 4
unfoldable pub whole_root : ℕ → ℕ → ℕ
whole_root zero n = 0
whole_root (suc d) n = digit n (2 * whole_root d (n / 4))

-- the whole part of the square root of n
unfoldable pub isqrt : ℕ → ℕ
isqrt n = whole_root (size n) n

-- The number nearest to √n of the format's smallest values, a tie going to the even one. Of the root's whole part the format keeps the 53 leading
-- digits, q, and drops k; the next one up is nearer where 4 * n lies above the square of (2 * q + 1) * 2 ^ k.
unfoldable pub round_root : ℕ → Float
round_root n =
    let k = size (isqrt n) - prec binary64 in
    let q = isqrt n / 2 ^ k in
    units binary64 false (nearest q (compare (4 * n) (square ((2 * q + 1) * 2 ^ k)))) k

-- 'square root': −0 gives −0, below zero not-a-number. x is m * up e / down e, so in smallest values, 2 ^ -1074, its root is √(x * 2 ^ (2 * 1074)).
unfoldable pub sqrt_of : Float → Float
sqrt_of nan = nan
sqrt_of (inf false) = inf false
sqrt_of (inf true) = nan
sqrt_of (fin s zero e) = fin s zero e
sqrt_of (fin true (suc m) e) = nan
sqrt_of (fin false (suc m) e) = round_root (suc m * up e * 2 ^ (2 * low binary64) / down e)

-- 'alpha = (1 + √17)/8', each step rounded: 8 is 1 * 2 ^ 3
unfoldable pub alpha : Float
alpha = (one_f ⊕ sqrt_of (fin false 17 (pos 0))) ⊘ fin false 1 (pos 3)
