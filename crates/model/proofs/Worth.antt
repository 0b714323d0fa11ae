-- A number of the format is told by what it is worth: a / c with the sign s, which `HasValue` says. Assumes nothing.
use mathlib.Core.Path.{◌≡◌, refl, sym, ◌∙◌, ap}
use mathlib.Core.Bool.{Bool}
use Prim.Native.Nat.{ℕ, suc, ◌+◌, ◌*◌, ◌/◌, ◌^◌, ◌<◌}
use native.Mathlib.Nat.{mul_assoc, mul_left_comm, mul_comm, eq_of_mul-eq-mul_right, lt_of_lt_of_le, le_of_eq}
use lib.Dec.{T}
use lib.Pow.{pow-add, pow_pos}
use lib.IntN.{ℤ}
use lib.Ieee.{Float, nan, inf, fin, binary64, up, down, round, fits, to_bits, of_bits}
use lib.Ieee.Exact.{HasValue, round_exact}
use lib.Ieee.Fits.{down_pos, round-fits}
use lib.Ieee.Nearest.{div_same}
use lib.Ieee.Bits.{of_bits-to_bits}
use Rattle.model.proofs.Nearest.{asked, placed, multiple, in-range}

cross : (x y a c p q l : ℕ) → 0 < c → x * c ≡ a * p → y * c ≡ a * q → x * l * q ≡ y * l * p
cross x y a c p q l C g h =
    let one : x * l * q * c ≡ x * c * (l * q) = simp (mul_assoc, mul_comm, mul_left_comm) in
    let two : a * p * (l * q) ≡ a * q * (l * p) = simp (mul_assoc, mul_comm, mul_left_comm) in
    let three : y * c * (l * p) ≡ y * l * p * c = simp (mul_assoc, mul_comm, mul_left_comm) in
    eq_of_mul-eq-mul_right c C (x * l * q) (y * l * p) (one ∙ ap (λ (z : ℕ). z * (l * q)) g ∙ two ∙ ap (λ (z : ℕ). z * (l * p)) (sym h) ∙ three)

-- two numbers of the same worth have the same bits
same-bits : (x y : Float) (s : Bool) (a c : ℕ) → 0 < c → HasValue x s a c → HasValue y s a c → to_bits binary64 x ≡ to_bits binary64 y
unfolding to_bits
same-bits nan y s a c C v w = absurd v
same-bits (inf t) y s a c C v w = absurd v
same-bits (fin t m e) nan s a c C v w = absurd w
same-bits (fin t m e) (inf u) s a c C v w = absurd w
same-bits (fin t m e) (fin u n g) s a c C v w =
    let l : ℕ = 2 ^ 1074 in
    let across : m * up e * l * down g ≡ n * up g * l * down e = cross (m * up e) (n * up g) a c (down e) (down g) l C v.1 w.1 in
    let whole : m * up e * l / down e ≡ n * up g * l / down g = div_same (m * up e * l) (down e) (n * up g * l) (down g) (down_pos e) (down_pos g) across in
    rw (v.0, w.0, whole)

-- and are the same, if both are of the format
pub worth-one : (x y : Float) (s : Bool) (a c : ℕ) → 0 < c → T (fits binary64 x) → T (fits binary64 y) → HasValue x s a c → HasValue y s a c → x ≡ y
worth-one x y s a c C f g v w =
    sym (of_bits-to_bits binary64 x f) ∙ ap (of_bits binary64) (same-bits x y s a c C v w) ∙ of_bits-to_bits binary64 y g

-- a number of the format other than zero is its worth, rounded
pub round-own : (s : Bool) (m : ℕ) (e : ℤ) → T (fits binary64 (fin s (suc m) e)) → round binary64 s (suc m * up e) (down e) ≡ fin s (suc m) e
round-own s m e f =
    let a = asked s m e f in
    let p = placed 1074 e a.1 in
    let n = suc m * up e in
    let q = suc m * 2 ^ p.0 in
    let whole : n * 2 ^ 1074 ≡ q * down e = multiple (suc m) (up e) (2 ^ 1074) (2 ^ p.0) (down e) p.1 in
    let few : q < 2 ^ 1024 * 2 ^ 1074 = in-range q (suc m) (up e) (2 ^ 1074) (2 ^ 1024) (down e) (down_pos e) (pow_pos 1074) whole a.2 in
    let below : q < 2 ^ (1074 + 1024) = lt_of_lt_of_le few (le_of_eq (mul_comm (2 ^ 1024) (2 ^ 1074) ∙ sym (pow-add 2 1074 1024))) in
    worth-one (round binary64 s n (down e)) (fin s (suc m) e) s n (down e) (down_pos e) (round-fits binary64 s n (down e)) f
    (round_exact binary64 s n (down e) (suc m) p.0 (down_pos e) a.0 below whole) (refl, refl)
