-- Why a diagonal surely reaches its own test's threshold, without the root. Where the rounded square of a number `low` is above `square`, its exact
-- square is so too, since rounding keeps the order; so `low` is not below the rounded root, and the threshold beside `low` is not below that beside the
-- root. No error of rounding is estimated. A reader may rely on `reached`. Assumes nothing.
use mathlib.Core.Path.{◌≡◌, refl, sym, ap, ◌∙◌, subst}
use mathlib.Core.Logic.{⊎_elim}
use mathlib.Core.Bool.{Bool, true, false, cond, ◌&&◌, false≢true}
use Prim.Native.Nat.{ℕ, zero, suc, ◌+◌, ◌*◌, ◌^◌, ◌≤◌, ◌<◌, zero-le}
use native.Mathlib.Nat.{lt_of_not-le, lt_of_le_of_lt, le_of_eq, mul_assoc, mul-pos, eq_of_mul-eq-mul_right, lt_of_mul-lt-mul_right}
use native.Mathlib.Omega.{arith}
use lib.Dec.{T}
use lib.IntN.{ℤ}
use lib.Pow.{pow_pos}
use lib.Ieee.{Float, nan, inf, fin, binary64, up, down, round, mul, lt, le, eq, fits, is_nan, of_bits}
use lib.Ieee.Bits.{is_true}
use lib.Ieee.Exact.{HasValue, round_exact}
use lib.Ieee.Fits.{down_pos, up_pos, mul-fits}
use lib.Ieee.Order.{round_mono}
use denote.Floats.{passes}
use borrow.Author.Tests.{ltb-true, lt-ltb, ne_eqb}
use Rattle.model.specs.Scalar.{◌⊗◌, zero_f, maximum_of, is_finite}
use Rattle.model.specs.Root.{square, sqrt_of, alpha}
use Rattle.model.proofs.Cases.{and_left, and_right}
use Rattle.model.proofs.Root.{square_le, le-or-lt}
use Rattle.model.proofs.Nearest.{sqrt-rounds}
use Rattle.rule.specs.Reach.{Reaches, ReachPre}
use Rattle.rule.proofs.Laws.{alpha-is}
use Rattle.rule.proofs.Units.{ahead, unsigned, ahead-round, le-infinity, le-through, lt_not_le, mul-of, mul-grows, none, held, held-exact}

-- ---- a rounded square above a number of the format

-- x is s / l, and stays so when it is rounded; low is a / c
exact_above : (x low : Float) (s l a c : ℕ) → 0 < l → 0 < c → HasValue x false s l → HasValue (round binary64 false s l) false s l
    → HasValue low false a c → lt x (low ⊗ low) ≡ true → s * (c * c) < a * a * l
exact_above x low s l a c L C vx kept vl h =
    lt_of_not-le
    (λ (g : a * a * l ≤ s * (c * c)).
    lt_not_le x (low ⊗ low) (round binary64 false s l) s l L vx kept h
    (subst (λ (y : Float). T (le y (round binary64 false s l))) (sym (mul-of low low a c a c C C vl vl))
    (round_mono binary64 (a * a) (c * c) s l (mul-pos C C) L g)))

-- ---- the root

-- in the format's smallest values the root is `root`, and it is at most every number of the format whose rounded square is above x
record Rooted (x : Float) : Type 0 where
  pub root : ℕ
  pub is : HasValue (sqrt_of x) false root (2 ^ 1074)
  pub least : (y : Float) (j : ℕ) → T (fits binary64 y) → HasValue y false j (2 ^ 1074) → lt x (y ⊗ y) ≡ true → root ≤ j

farther : (n j r : ℕ) → j < r → square (r + j) < 4 * n → n < j * j → ⊥
farther n j r g h k = let a : square (2 * j) ≤ square (r + j) = square_le (omega arith) in omega arith

pub same_units : (x : Float) (a b l : ℕ) → HasValue x false a l → HasValue x false b l → a ≡ b
same_units nan a b l p q = absurd p
same_units (inf s) a b l p q = absurd p
same_units (fin s m e) a b l p q = eq_of_mul-eq-mul_right (down e) (down_pos e) a b (sym p.1 ∙ q.1)

above_zero : (m u d : ℕ) → 0 < u → 0 * 1 * d < suc m * u * 1
above_zero m u d U = omega (arith, mul-pos {m = suc m} (omega arith) U)

pub zero-below : (m : ℕ) (e : ℤ) → lt zero_f (fin false (suc m) e) ≡ true
unfolding lt of_bits
zero-below m e = lt-ltb (0 * 1 * down e) (suc m * up e * 1) (above_zero m (up e) (down e) (up_pos e))

pub finite-is : (m : ℕ) (e : ℤ) → is_finite (fin false m e) ≡ true
unfolding is_finite
finite-is m e = refl

rooted : (m : ℕ) (e : ℤ) → T (fits binary64 (fin false m e)) → Rooted (fin false m e)
unfolding sqrt_of
rooted zero e f = record { root = 0; is = (refl, none (up e) (2 ^ 1074) (down e)); least = λ y j g v h. zero-le }
rooted (suc m) e f =
    let x = fin false (suc m) e in
    let l = 2 ^ 1074 in
    let k = held (suc m) e f in
    let r = sqrt-rounds x f (zero-below m e) (finite-is (suc m) e) in
    let s = r.size in
    let kept : HasValue (round binary64 false s l) false s l =
    subst (λ (a : ℕ). HasValue (round binary64 false a l) false a l) (same_units x (k.digits * 2 ^ k.zeros) s l k.is r.of) (held-exact x k) in
    record {
      root = r.root;
      is = r.is;
      least =
          λ y j g v h.
          let above : s * l < j * j =
          lt_of_mul-lt-mul_right l
          (lt_of_le_of_lt (le_of_eq (mul_assoc s l l)) (exact_above x y s l j l (pow_pos 1074) (pow_pos 1074) r.of kept v h)) in
          ⊎_elim (λ (w : r.root ≤ j). w) (λ (w : j < r.root). absurd (farther (s * l) j r.root w ((r.nearest y j g v).1 w) above))
          (le-or-lt r.root j);
    }

-- ---- thresholds

alpha-value : HasValue alpha false 0x14_7E0F_66AF_ED07 (2 ^ 53)
unfolding of_bits
alpha-value = subst (λ (x : Float). HasValue x false 0x14_7E0F_66AF_ED07 (2 ^ 53)) alpha-is (refl, refl)

-- no finite number reaches an infinite threshold
alpha-infinity : (m : ℕ) (e : ℤ) → le (alpha ⊗ inf false) (fin false m e) ≡ true → ⊥
unfolding of_bits mul le
alpha-infinity m e h = false≢true (subst (λ (x : Float). le (x ⊗ inf false) (fin false m e) ≡ true) (sym alpha-is) h)

ahead-product : (x y : Float) (a c b d : ℕ) → 0 < c → 0 < d → HasValue x false a c → HasValue y false b d → T (ahead (x ⊗ y))
ahead-product x y a c b d C D p q = subst (λ (z : Float). T (ahead z)) (sym (mul-of x y a c b d C D p q)) (ahead-round (a * b) (c * d))

ahead-threshold : (x : Float) (b : ℕ) → HasValue x false b (2 ^ 1074) → T (ahead (alpha ⊗ x))
ahead-threshold x b v = ahead-product alpha x 0x14_7E0F_66AF_ED07 (2 ^ 53) b (2 ^ 1074) (pow_pos 53) (pow_pos 1074) alpha-value v

-- the root's threshold is at most that of `low`
threshold-le : (x low : Float) (m : ℕ) (e : ℤ) → Rooted x → T (ahead low) → T (fits binary64 low) → lt x (low ⊗ low) ≡ true
    → le (alpha ⊗ low) (fin false m e) ≡ true → le (alpha ⊗ sqrt_of x) (fin false m e) ≡ true
threshold-le x nan m e r a f h g = absurd a
threshold-le x (inf true) m e r a f h g = absurd a
threshold-le x (inf false) m e r a f h g = absurd (alpha-infinity m e g)
threshold-le x (fin true n d) m e r a f h g = absurd a
threshold-le x (fin false n d) m e r a f h g =
    let low = fin false n d in
    let k = held n d f in
    let j = k.digits * 2 ^ k.zeros in
    is_true (le (alpha ⊗ sqrt_of x) (fin false m e))
    (le-through (alpha ⊗ sqrt_of x) (alpha ⊗ low) m e (ahead-threshold (sqrt_of x) r.root r.is) (ahead-threshold low j k.is)
    (mul-grows alpha (sqrt_of x) low 0x14_7E0F_66AF_ED07 (2 ^ 53) r.root j (2 ^ 1074) (pow_pos 53) (pow_pos 1074) alpha-value r.is k.is
    (r.least low j f k.is h))
    (passes (le (alpha ⊗ low) (fin false m e)) g))

-- ---- the greater of own and the root is not zero

not-above-infinity : (y : Float) → lt (inf false) y ≡ true → ⊥
unfolding lt
not-above-infinity nan h = false≢true h
not-above-infinity (inf t) h = false≢true h
not-above-infinity (fin t n d) h = false≢true h

product-nonzero : (a d : ℕ) → 0 < a → a * 1 ≡ 0 * 1 * d → ⊥
product-nonzero a d h e = omega arith

first_pos : (a k d : ℕ) → k < a * d → 0 < a
first_pos zero k d h = absurd (omega arith)
first_pos (suc a) k d h = omega arith

positive-nonzero : (n : ℕ) (d : ℤ) → 0 < n * up d → eq (fin false n d) zero_f ≡ false
unfolding eq of_bits
positive-nonzero n d h = ap (λ (t : Bool). t && true) (ne_eqb (n * up d * 1) (0 * 1 * down d) (product-nonzero (n * up d) (down d) h))

lt-nonzero : (x y : Float) → T (ahead x) → lt x y ≡ true → eq y zero_f ≡ false
unfolding lt eq of_bits
lt-nonzero nan y a h = absurd a
lt-nonzero (inf true) y a h = absurd a
lt-nonzero (inf false) y a h = absurd (not-above-infinity y h)
lt-nonzero (fin true m e) y a h = absurd a
lt-nonzero (fin false m e) nan a h = refl
lt-nonzero (fin false m e) (inf t) a h = refl
lt-nonzero (fin false m e) (fin true n d) a h = absurd (false≢true h)
lt-nonzero (fin false m e) (fin false n d) a h =
    positive-nonzero n d (first_pos (n * up d) (m * up e * down d) (down e) (ltb-true (m * up e * down d) (n * up d * down e) h))

maximum-nonzero : (x y : Float) → T (ahead x) → eq x zero_f ≡ false → eq (maximum_of x y) zero_f ≡ false
unfolding maximum_of is_nan
maximum-nonzero nan y a n = absurd a
maximum-nonzero (inf s) y a n = go (lt (inf s) y) refl
  where
    go : (b : Bool) → lt (inf s) y ≡ b → eq (cond b y (inf s)) zero_f ≡ false
    go true h = lt-nonzero (inf s) y a h
    go false h = n
maximum-nonzero (fin s m e) y a n = go (lt (fin s m e) y) refl
  where
    go : (b : Bool) → lt (fin s m e) y ≡ b → eq (cond b y (fin s m e)) zero_f ≡ false
    go true h = lt-nonzero (fin s m e) y a h
    go false h = n

infinity-nonzero : eq (inf false) zero_f ≡ false
unfolding eq of_bits
infinity-nonzero = refl

-- ---- both tests

no-square : (s c n l : ℕ) → s * c < 0 * n * (0 * n) * l → ⊥
no-square s c n l h = omega arith

le-nan : (x : Float) → le x nan ≡ true → ⊥
unfolding le
le-nan nan h = false≢true h
le-nan (inf s) h = false≢true h
le-nan (fin s m e) h = false≢true h

nan-below : (y : Float) → lt nan y ≡ true → ⊥
unfolding lt
nan-below y h = false≢true h

-- k is the factor n / c that makes `low` of own
module _ (k : Float) (n c : ℕ) (C : 0 < c) (v : HasValue k false n c) where
  abbrev low : Float → Float
  low own = own ⊗ k

  zero-low : (e : ℤ) → HasValue (low (fin false 0 e)) false (0 * n) (1 * c)
  zero-low e =
      subst (λ (y : Float). HasValue y false (0 * n) (1 * c))
      (sym (mul-of (fin false 0 e) k 0 1 n c (pow_pos 0) C (refl, none (up e) 1 (down e)) v))
      (round_exact binary64 false (0 * n) (1 * c) 0 0 (mul-pos (pow_pos 0) C) (pow_pos 53) (pow_pos 2098) (none n (2 ^ 1074) (1 * c)))

  both : (own x : Float) → T (ahead own) → T (ahead x) → T (fits binary64 x) → lt x (low own ⊗ low own) ≡ true → le (alpha ⊗ low own) own ≡ true
      → Reaches own x
  both own nan a b f h g = absurd b
  both own (inf true) a b f h g = absurd b
  both own (inf false) a b f h g = absurd (not-above-infinity (low own ⊗ low own) h)
  both own (fin true p d) a b f h g = absurd b
  both nan (fin false p d) a b f h g = absurd a
  both (inf true) (fin false p d) a b f h g = absurd a
  both (inf false) (fin false p d) a b f h g =
      let r = rooted p d f in
      let t = alpha ⊗ sqrt_of (fin false p d) in
      record {
        nonzero = maximum-nonzero (inf false) (sqrt_of (fin false p d)) tt infinity-nonzero;
        taken = is_true (le t (inf false)) (le-infinity t (ahead-threshold (sqrt_of (fin false p d)) r.root r.is));
      }
  both (fin true m e) (fin false p d) a b f h g = absurd a
  both (fin false zero e) (fin false p d) a b f h g =
      let i = held p d f in
      let s = i.digits * 2 ^ i.zeros in
      absurd
      (no-square s (1 * c * (1 * c)) n (2 ^ 1074)
      (exact_above (fin false p d) (low (fin false 0 e)) s (2 ^ 1074) (0 * n) (1 * c) (pow_pos 1074) (mul-pos (pow_pos 0) C) i.is
      (held-exact (fin false p d) i) (zero-low e) h))
  both (fin false (suc m) e) (fin false p d) a b f h g =
      let own = fin false (suc m) e in
      let x = fin false p d in
      record {
        nonzero = maximum-nonzero own (sqrt_of x) tt (positive-nonzero (suc m) e (mul-pos {m = suc m} (omega arith) (up_pos e)));
        taken =
            threshold-le x (low own) (suc m) e (rooted p d f) (ahead-product own k (suc m * up e) (down e) n c (down_pos e) C (refl, refl) v)
            (mul-fits binary64 own k) h g;
      }

  -- t is the threshold beside `low`
  pub reached : (own x t : Float) → t ≡ alpha ⊗ low own → ReachPre own x → T (fits binary64 x) → lt x (low own ⊗ low own) && le t own ≡ true
      → Reaches own x
  reached own x t et m f w =
      let h = and_left (lt x (low own ⊗ low own)) (le t own) w in
      let g = and_right (lt x (low own ⊗ low own)) (le t own) w in
      ⊎_elim
      (λ (a : T (ahead own)).
      ⊎_elim (λ (b : T (ahead x)). both own x a b f h (subst (λ (y : Float). le y own ≡ true) et g))
      (λ (z : x ≡ nan). absurd (nan-below (low own ⊗ low own) (subst (λ (y : Float). lt y (low own ⊗ low own) ≡ true) z h)))
      (unsigned x m.column))
      (λ (z : own ≡ nan). absurd (le-nan t (subst (λ (y : Float). le t y ≡ true) z g)))
      (unsigned own m.diagonal)
