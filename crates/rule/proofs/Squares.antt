-- The root of a rounded square. Where the square of a number is above `least` and finite, its correctly rounded root is the number's magnitude: the
-- square's error is at most half its last place, and the root of a number that near is nearer to the magnitude than to any other number of 53 digits.
-- A reader may rely on `root-of-square` and on `root-spared`, which has it as the code asks it. Assumes nothing.
use mathlib.Core.Path.{◌≡◌, refl, sym, ap, ◌∙◌, subst}
use mathlib.Core.Logic.{inl, inr}
use mathlib.Core.Bool.{Bool, true, false, ◌&&◌, true≢false, false≢true}
use Prim.Native.Nat.{ℕ, zero, suc, ◌*◌, ◌^◌, ◌<◌, zero-le}
use native.Mathlib.Nat.{lt_of_le_of_lt, lt_of_mul-lt-mul_right, mul-pos, mul-lt-mul_of_pos_right}
use native.Mathlib.Omega.{arith}
use lib.Dec.{T}
use lib.IntN.{ℤ}
use lib.Pow.{pow-add, pow_pos, pow_mono}
use lib.Ieee.{Float, nan, inf, fin, binary64, up, down, round, mul, lt, fits, of_bits}
use lib.Ieee.Exact.{HasValue}
use lib.Ieee.Fits.{down_pos, round-fits}
use lib.Ieee.Scale.{grid, finite, round_val, round_under, normal_of_rounded}
use borrow.Author.Tests.{ltb-true}
use Rattle.model.specs.Scalar.{◌⊗◌, zero_f, is_finite, magnitude_of, square_of}
use Rattle.model.specs.Root.{sqrt_of}
use Rattle.model.proofs.Cases.{and_left, and_right}
use Rattle.model.proofs.Nearest.{Nearer, sqrt-rounds, held as digits_of}
use Rattle.model.proofs.Worth.{worth-one}
use Rattle.greatest.specs.Greatest.{SquareOf}
use Rattle.rule.proofs.Units.{mul-of, held}
use Rattle.rule.proofs.Reach.{same_units, zero-below, finite-is}
use Rattle.rule.proofs.Nearby.{Squared, squared, root-back}

-- 2 ^ -1000
abbrev pub least : Float
least = of_bits binary64 0x0170_0000_0000_0000

-- ---- over the numbers of the format

above-least : (d v S A B : ℕ) → 0 < d → v * (A * B) ≡ S * d → 1 * 1 * d < v * A → 0 < B → B < S
above-least d v S A B D e h P =
    lt_of_mul-lt-mul_right d (let k : 1 * 1 * d * B < v * A * B = mul-lt-mul_of_pos_right h P in omega (arith, e))

above-normal : (z : Float) (S : ℕ) → HasValue z false S (2 ^ 1074) → lt least z ≡ true → 2 ^ 52 < S
unfolding lt of_bits
above-normal nan S v h = absurd v
above-normal (inf s) S v h = absurd v
above-normal (fin true m e) S v h = absurd (true≢false v.0)
above-normal (fin false m e) S v h =
    lt_of_le_of_lt (pow_mono {i = 52} {j = 74} (omega arith))
    (above-least (down e) (m * up e) S (2 ^ 1000) (2 ^ 74) (down_pos e)
    (ap (λ (x : ℕ). m * up e * x) (sym (pow-add 2 1000 74)) ∙ v.1)
    (ltb-true (1 * 1 * down e) (m * up e * 2 ^ 1000) h) (pow_pos 74))

no_value : (u l a d : ℕ) → 0 < a → 0 < d → 0 * u * l ≡ a * d → ⊥
no_value u l a d A D h = omega (arith, mul-pos A D)

-- z is S of the smallest values, and S * 2 ^ 1074 is the rounded square of the a of them that y is
root_is : (y z : Float) (a S : ℕ) → T (fits binary64 y) → T (fits binary64 z) → HasValue y false a (2 ^ 1074) → HasValue z false S (2 ^ 1074) → 0 < S
    → Squared a (S * 2 ^ 1074) → sqrt_of z ≡ y
root_is y nan a S f g v w P s = absurd w
root_is y (inf t) a S f g v w P s = absurd w
root_is y (fin true m e) a S f g v w P s = absurd (true≢false w.0)
root_is y (fin false zero e) a S f g v w P s = absurd (no_value (up e) (2 ^ 1074) S (down e) P (down_pos e) w.1)
root_is y (fin false (suc m) e) a S f g v w P s =
    let z = fin false (suc m) e in
    let r = sqrt-rounds z g (zero-below m e) (finite-is (suc m) e) in
    let same : r.size ≡ S = same_units z r.size S (2 ^ 1074) r.of w in
    let near : Nearer (S * 2 ^ 1074) r.root a = subst (λ (x : ℕ). Nearer (x * 2 ^ 1074) r.root a) same (r.nearest y a f v) in
    let back =
    root-back a (S * 2 ^ 1074) r.root s (digits_of y false a f v).digits (digits_of (sqrt_of z) false r.root r.fit r.is).digits near in
    worth-one (sqrt_of z) y false a (2 ^ 1074) (pow_pos 1074) r.fit f (subst (λ (x : ℕ). HasValue (sqrt_of z) false x (2 ^ 1074)) back.1 r.is) v

finite-at : (x : Float) → is_finite x ≡ true → T (finite x)
unfolding is_finite
finite-at nan h = absurd (false≢true h)
finite-at (inf s) h = absurd (false≢true h)
finite-at (fin s m e) h = tt

root-at : (y : Float) (a : ℕ) → T (fits binary64 y) → HasValue y false a (2 ^ 1074) → lt least (y ⊗ y) ≡ true → is_finite (y ⊗ y) ≡ true
    → sqrt_of (y ⊗ y) ≡ y
root-at y a f v h g =
    let l = 2 ^ 1074 in
    let z = round binary64 false (a * a) (l * l) in
    let e : y ⊗ y ≡ z = mul-of y y a l a l (pow_pos 1074) (pow_pos 1074) v v in
    let w : HasValue z false (grid binary64 (a * a) (l * l)) l =
    round_val binary64 (a * a) (l * l) (round_under binary64 (a * a) (l * l) (finite-at z (ap is_finite (sym e) ∙ g))) in
    let n : 2 ^ 52 < grid binary64 (a * a) (l * l) = above-normal z (grid binary64 (a * a) (l * l)) w (ap (λ (x : Float). lt least x) (sym e) ∙ h) in
    ap sqrt_of e
    ∙ root_is y z a (grid binary64 (a * a) (l * l)) f (round-fits binary64 false (a * a) (l * l)) v w (lt_of_le_of_lt zero-le n)
    (squared a 1074 (omega arith) (normal_of_rounded binary64 (a * a) (l * l) n))

positive-fits : (s : Bool) (m : ℕ) (e : ℤ) → T (fits binary64 (fin s m e)) → T (fits binary64 (fin false m e))
unfolding fits
positive-fits s zero e f = f
positive-fits s (suc m) e f = f

square-magnitude : (s : Bool) (m : ℕ) (e : ℤ) → square_of (fin s m e) ≡ square_of (fin false m e)
unfolding mul
square-magnitude true m e = refl
square-magnitude false m e = refl

pub root-of-square : (x : Float) → T (fits binary64 x) → lt least (square_of x) ≡ true → is_finite (square_of x) ≡ true → sqrt_of (square_of x) ≡ magnitude_of x
unfolding mul is_finite magnitude_of
root-of-square nan f h g = absurd (false≢true g)
root-of-square (inf s) f h g = absurd (false≢true g)
root-of-square (fin s m e) f h g =
    let c = square-magnitude s m e in
    let y = fin false m e in
    let fy = positive-fits s m e f in
    let k = held m e fy in
    ap sqrt_of c
    ∙ root-at y (k.digits * 2 ^ k.zeros) fy k.is (ap (λ (z : Float). lt least z) (sym c) ∙ h) (ap is_finite (sym c) ∙ g)

least-not-below : lt least zero_f ≡ true → ⊥
unfolding lt of_bits
least-not-below h = false≢true h

-- ---- as the code goes: f is the upper bound's test, m the magnitude

pub root-spared : (square x m : Float) (f : Bool) → T (fits binary64 x) → SquareOf square x → f ≡ is_finite square → lt least square && f ≡ true
    → m ≡ magnitude_of x → m ≡ sqrt_of square
root-spared square x m f k (inl z) ef w em = absurd (least-not-below (ap (λ (y : Float). lt least y) (sym z) ∙ and_left (lt least square) f w))
root-spared square x m f k (inr e) ef w em =
    let above : lt least (square_of x) ≡ true = ap (λ (y : Float). lt least y) (sym e) ∙ and_left (lt least square) f w in
    let below : is_finite (square_of x) ≡ true = ap is_finite (sym e) ∙ sym ef ∙ and_right (lt least square) f w in
    em ∙ sym (root-of-square x k above below) ∙ ap sqrt_of (sym e)
