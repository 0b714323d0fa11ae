-- Numbers that are not negative: their order, their rounded products and their count in the format's smallest values, 2 ^ -1074. A reader may
-- rely on `le-through` and `lt_not_le` (the order), `mul-grows` (products), `held` and `held-exact` (the count). Assumes nothing.
use mathlib.Core.Path.{◌≡◌, refl, sym, ap, ◌∙◌, subst}
use mathlib.Core.Logic.{◌⊎◌, inl, inr}
use mathlib.Core.Bool.{Bool, true, false, not, cond, ◌&&◌, ◌||◌, true≢false, false≢true}
use Prim.Native.Nat.{ℕ, zero, suc, ◌*◌, ◌^◌, ◌≤◌, ◌<◌}
use native.Mathlib.Nat.{le_refl, le_of_eq, le_of_lt, not-le_of_lt, mul-mul-mul_comm, mul-pos, mul-le-mul_left, mul-le-mul_right}
use native.Mathlib.Omega.{arith}
use lib.Dec.{T, ltb, eqb, ltb→lt, eqb→eq}
use lib.IntN.{ℤ}
use lib.Pow.{pow_pos}
use lib.Ieee.{Float, nan, inf, fin, binary64, up, down, odd, units, round, mul, lt, le, fits}
use lib.Ieee.Exact.{HasValue, round_exact}
use lib.Ieee.Fits.{down_pos, and_l, round_is}
use lib.Ieee.Order.{transfer, le_of_values, round_mono}
use lib.Ieee.Positive.{through}
use lib.Ieee.Scale.{round_same}
use borrow.Author.Tests.{ltb-true}
use Rattle.model.specs.Scalar.{◌⊗◌, magnitude_of}
use Rattle.model.proofs.Nearest.{placed, asked, multiple, in-range}

-- ---- not negative and no not-a-number

abbrev pub ahead : Float → Bool
ahead nan = false
ahead (inf s) = not s
ahead (fin s m e) = not s

-- what has no sign is so, but for the not-a-number
pub unsigned : (x : Float) → magnitude_of x ≡ x → T (ahead x) ⊎ (x ≡ nan)
unfolding magnitude_of
unsigned nan h = inr refl
unsigned (inf false) h = inl tt
unsigned (inf true) h = let z : true ≡ false = cc in absurd (true≢false z)
unsigned (fin false m e) h = inl tt
unsigned (fin true m e) h = let z : true ≡ false = cc in absurd (true≢false z)

pub ahead-unsigned : (x : Float) → T (ahead x) → magnitude_of x ≡ x
unfolding magnitude_of
ahead-unsigned nan h = absurd h
ahead-unsigned (inf false) h = refl
ahead-unsigned (inf true) h = absurd h
ahead-unsigned (fin false m e) h = refl
ahead-unsigned (fin true m e) h = absurd h

ahead-units : (q k : ℕ) → T (ahead (units binary64 false q k))
unfolding units odd
ahead-units q k = go (ltb (q * 2 ^ k) (2 ^ 2098)) q
  where
    go : (t : Bool) (q : ℕ) → T (ahead (cond t (odd 54 false q k 1074) (inf false)))
    go true zero = tt
    go true (suc q) = tt
    go false q = tt

pub ahead-round : (a c : ℕ) → T (ahead (round binary64 false a c))
ahead-round a c = subst (λ (x : Float). T (ahead x)) (sym (round_is binary64 false a c)) (ahead-units _ _)

-- ---- the order

or_split : (a b : Bool) → T (a || b) → T a ⊎ T b
or_split true b t = inl tt
or_split false b t = inr t

le-cross : (m : ℕ) (e : ℤ) (n : ℕ) (d : ℤ) → T (le (fin false m e) (fin false n d)) → m * up e * down d ≤ n * up d * down e
unfolding le
le-cross m e n d h =
    let a = m * up e * down d in
    let b = n * up d * down e in
    elim (or_split (ltb a b) (eqb a b && true) h) [
      | inl t ↦ le_of_lt (ltb→lt a b t)
      | inr t ↦ le_of_eq (eqb→eq a b (and_l (eqb a b) true t))
    ]

pub le-infinity : (x : Float) → T (ahead x) → T (le x (inf false))
unfolding le
le-infinity nan a = absurd a
le-infinity (inf true) a = absurd a
le-infinity (inf false) a = tt
le-infinity (fin true m e) a = absurd a
le-infinity (fin false m e) a = tt

-- what lies below a finite number is finite
pub le-through : (x y : Float) (n : ℕ) (d : ℤ) → T (ahead x) → T (ahead y) → T (le x y) → T (le y (fin false n d)) → T (le x (fin false n d))
unfolding le
le-through x nan n d a b h g = absurd b
le-through x (inf true) n d a b h g = absurd b
le-through x (inf false) n d a b h g = absurd g
le-through x (fin true p c) n d a b h g = absurd b
le-through nan (fin false p c) n d a b h g = absurd a
le-through (inf true) (fin false p c) n d a b h g = absurd a
le-through (inf false) (fin false p c) n d a b h g = absurd h
le-through (fin true m e) (fin false p c) n d a b h g = absurd a
le-through (fin false m e) (fin false p c) n d a b h g =
    le_of_values (fin false m e) (fin false n d) (m * up e) (down e) (n * up d) (down d) (down_pos e) (down_pos d) (refl, refl) (refl, refl)
    (through (m * up e) (p * up c) (n * up d) (down e) (down c) (down d) (down_pos c) (le-cross m e p c h) (le-cross p c n d g))

-- no y is above x and at most a z of x's value
pub lt_not_le : (x y z : Float) (a c : ℕ) → 0 < c → HasValue x false a c → HasValue z false a c → lt x y ≡ true → T (le y z) → ⊥
unfolding lt le
lt_not_le nan y z a c C p q h g = absurd p
lt_not_le (inf s) y z a c C p q h g = absurd p
lt_not_le (fin true m e) y z a c C p q h g = absurd (true≢false p.0)
lt_not_le (fin false m e) y nan a c C p q h g = absurd q
lt_not_le (fin false m e) y (inf s) a c C p q h g = absurd q
lt_not_le (fin false m e) y (fin true o b) a c C p q h g = absurd (true≢false q.0)
lt_not_le (fin false m e) nan (fin false o b) a c C p q h g = absurd g
lt_not_le (fin false m e) (inf true) (fin false o b) a c C p q h g = absurd (false≢true h)
lt_not_le (fin false m e) (inf false) (fin false o b) a c C p q h g = absurd g
lt_not_le (fin false m e) (fin true n d) (fin false o b) a c C p q h g = absurd (false≢true h)
lt_not_le (fin false m e) (fin false n d) (fin false o b) a c C p q h g =
    let back = transfer (o * up b) (m * up e) (down b) (down e) a a c c C C q.1 p.1 (le_refl (a * c)) in
    not-le_of_lt (ltb-true (m * up e * down d) (n * up d * down e) h)
    (through (n * up d) (o * up b) (m * up e) (down d) (down b) (down e) (down_pos b) (le-cross n d o b g) back)

-- ---- the product, by any fractions that the factors equal

pub mul-of : (x y : Float) (a c b d : ℕ) → 0 < c → 0 < d → HasValue x false a c → HasValue y false b d
    → x ⊗ y ≡ round binary64 false (a * b) (c * d)
unfolding mul
mul-of nan y a c b d C D p q = absurd p
mul-of (inf s) y a c b d C D p q = absurd p
mul-of (fin true m e) y a c b d C D p q = absurd (true≢false p.0)
mul-of (fin false m e) nan a c b d C D p q = absurd q
mul-of (fin false m e) (inf t) a c b d C D p q = absurd q
mul-of (fin false m e) (fin true n g) a c b d C D p q = absurd (true≢false q.0)
mul-of (fin false m e) (fin false n g) a c b d C D p q =
    round_same binary64 false (m * up e * (n * up g)) (down e * down g) (a * b) (c * d) (mul-pos (down_pos e) (down_pos g)) (mul-pos C D)
    (mul-mul-mul_comm (m * up e) (n * up g) c d
    ∙ ap (λ (z : ℕ). z * (n * up g * d)) p.1
    ∙ ap (λ (z : ℕ). a * down e * z) q.1
    ∙ mul-mul-mul_comm a (down e) b (down g))

-- it grows with its second factor
pub mul-grows : (k x y : Float) (n c a b l : ℕ) → 0 < c → 0 < l → HasValue k false n c → HasValue x false a l → HasValue y false b l → a ≤ b
    → T (le (k ⊗ x) (k ⊗ y))
mul-grows k x y n c a b l C L h p q g =
    subst (λ (z : Float). T (le z (k ⊗ y))) (sym (mul-of k x n c a l C L h p))
    (subst (λ (z : Float). T (le (round binary64 false (n * a) (c * l)) z)) (sym (mul-of k y n c b l C L h q))
    (round_mono binary64 (n * a) (c * l) (n * b) (c * l) (mul-pos C L) (mul-pos C L) (mul-le-mul_right (c * l) (mul-le-mul_left n g))))

-- ---- finite numbers of the format, in its smallest values

-- x is digits * 2 ^ zeros of them
pub record Held (x : Float) : Type 0 where
  pub digits : ℕ
  pub zeros : ℕ
  pub few : digits < 2 ^ 53
  pub below : digits * 2 ^ zeros < 2 ^ 2098
  pub is : HasValue x false (digits * 2 ^ zeros) (2 ^ 1074)

pub none : (u l d : ℕ) → 0 * u * l ≡ 0 * 2 ^ 0 * d
none u l d = omega arith

pub held : (m : ℕ) (e : ℤ) → T (fits binary64 (fin false m e)) → Held (fin false m e)
held zero e f = record { digits = 0; zeros = 0; few = pow_pos 53; below = pow_pos 2098; is = (refl, none (up e) (2 ^ 1074) (down e)) }
held (suc m) e f =
    let k = asked false m e f in
    let p = placed 1074 e k.1 in
    let v = multiple (suc m) (up e) (2 ^ 1074) (2 ^ p.0) (down e) p.1 in
    record {
      digits = suc m;
      zeros = p.0;
      few = k.0;
      below = in-range (suc m * 2 ^ p.0) (suc m) (up e) (2 ^ 1074) (2 ^ 1024) (down e) (down_pos e) (pow_pos 1074) v k.2;
      is = (refl, v);
    }

-- and rounding keeps it
pub held-exact : (x : Float) (h : Held x)
    → HasValue (round binary64 false (h.digits * 2 ^ h.zeros) (2 ^ 1074)) false (h.digits * 2 ^ h.zeros) (2 ^ 1074)
held-exact x h = round_exact binary64 false (h.digits * 2 ^ h.zeros) (2 ^ 1074) h.digits h.zeros (pow_pos 1074) h.few h.below refl
