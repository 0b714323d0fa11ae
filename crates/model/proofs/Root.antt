-- Laws of `sqrt_of` and what it is made of: the whole root, its rounding, the bits of what it gives, and its value by the argument's bits.
-- Cited by the code that works it out in whole numbers. Assumes nothing.
use mathlib.Core.Path.{◌≡◌, refl, sym, ap, ◌∙◌, subst}
use mathlib.Core.Logic.{◌⊎◌, inl, inr, ⊎_elim}
use mathlib.Core.Bool.{Bool, true, false, not, cond, true≢false}
use Prim.Native.Nat.{ℕ, zero, suc, ◌+◌, ◌-◌, ◌*◌, ◌/◌, ◌%◌, ◌^◌, ◌≤◌, ◌<◌, compare, Ordering}
use native.Mathlib.Nat.{le_refl, le_trans, le_of_eq, le_of_lt, le_antisymm, le_of_suc-le-suc, lt_irrefl, lt_of_lt_of_le, lt_of_le_of_lt, lt_of_not-le}
use native.Mathlib.Nat.{not-le_of_lt, eq-or-lt_of_le, mul-le-mul, mul-le-mul_right, mul-lt-mul_of_pos_right, mul_assoc, mul-one, mul-pos, mul_right_comm}
use native.Mathlib.Nat.{zero-add, pow-suc, pow-le-pow_left, mul-div_cancel, div-lt_iff_lt-mul, le-div_iff_mul-le, mod-eq_of_lt}
use native.Mathlib.Omega.{arith}
use native.Mathlib.Numerals.{add-one}
use lib.Dec.{T, leb, ltb, eqb, lit<, lit≤, is_le, compare_is_eq, not_T, le→leb, leb→le, nleb→lt, eqb→eq, eqb_refl}
use lib.Arith.{lt_of_le-ne, lt→nleb}
use lib.Pow.{pow-add, pow_pos, pow_mono, pow-lt, shl_lt}
use lib.Ieee.{Float, nan, inf, fin, Format, binary64, prec, emax, low, up, down, size, nearest, odd, units, hid, top}
use lib.Ieee.{of_fields, of_bits, to_bits, fits, is_nan, nan_bits}
use lib.Ieee.Exact.{HasValue, units_val, odd_sign}
use lib.Ieee.Fits.{down_pos, odd-fits, inf-fits, cond-fits}
use lib.Ieee.Bits.{of_bits-to_bits, nan_bits_is, is_true, is_false, cond_no}
use lib.Ieee.Digits.{size-lt, size-le}
use Rattle.model.specs.Root.{square, digit, whole_root, isqrt, round_root, sqrt_of}

-- ---- squares keep the order

pub square_le : {a b : ℕ} → a ≤ b → square a ≤ square b
square_le h = mul-le-mul h h

pub square-lt-back : (a b : ℕ) → square a < square b → a < b
square-lt-back a b h = lt_of_not-le (λ (g : b ≤ a). not-le_of_lt h (square_le g))

-- ---- `isqrt` is the whole part of the root

digit-law : (n r : ℕ) → square r ≤ n / 4 → n / 4 < square (r + 1) → (square (digit n (2 * r)) ≤ n) × (n < square (digit n (2 * r) + 1))
digit-law n r a b = go (leb (square (2 * r + 1)) n) (leb→le (square (2 * r + 1)) n) (nleb→lt (square (2 * r + 1)) n)
  where
    go : (t : Bool) → (T t → square (2 * r + 1) ≤ n) → (T (not t) → n < square (2 * r + 1))
        → (square (cond t (2 * r + 1) (2 * r)) ≤ n) × (n < square (cond t (2 * r + 1) (2 * r) + 1))
    go true p q = let h = p tt in omega arith
    go false p q = let h = q tt in omega arith

whole_root-law : (d n : ℕ) → n < 4 ^ d → (square (whole_root d n) ≤ n) × (n < square (whole_root d n + 1))
unfolding whole_root
whole_root-law zero n h = omega arith
whole_root-law (suc d) n h =
    let ih = whole_root-law d (n / 4) (omega arith) in
    digit-law n (whole_root d (n / 4)) ih.0 ih.1

pub isqrt-law : (n : ℕ) → (square (isqrt n) ≤ n) × (n < square (isqrt n + 1))
unfolding isqrt
isqrt-law n = whole_root-law (size n) n (lt_of_lt_of_le (size-lt n) (pow-le-pow_left (lit≤ tt) (size n)))

-- ---- what `compare` says

abbrev pub Compared : Ordering → ℕ → ℕ → Type 0
Compared Ordering.lt a b = a < b
Compared Ordering.eq a b = a ≡ b
Compared Ordering.gt a b = b < a

pub compared : (a b : ℕ) → Compared (compare a b) a b
compared a b = go (compare a b) (leb→le a b) (nleb→lt a b) (eqb→eq a b) (λ (e : a ≡ b). subst (λ (x : ℕ). T (eqb a x)) e (eqb_refl a))
  where
    go : (o : Ordering) → (T (is_le o) → a ≤ b) → (T (not (is_le o)) → b < a) → (T (compare_is_eq o) → a ≡ b) → (a ≡ b → T (compare_is_eq o)) → Compared o a b
    go Ordering.lt h k e n = lt_of_le-ne (h tt) n
    go Ordering.eq h k e n = e tt
    go Ordering.gt h k e n = k tt

pub le-or-lt : (a b : ℕ) → (a ≤ b) ⊎ (b < a)
le-or-lt a b = go (compare a b) (compared a b)
  where
    go : (o : Ordering) → Compared o a b → (a ≤ b) ⊎ (b < a)
    go Ordering.lt h = inl (le_of_lt h)
    go Ordering.eq h = inl (le_of_eq h)
    go Ordering.gt h = inr h

compare-lt : (a b : ℕ) → a < b → compare a b ≡ Ordering.lt
compare-lt a b h = go (compare a b) (compared a b)
  where
    go : (o : Ordering) → Compared o a b → o ≡ Ordering.lt
    go Ordering.lt k = refl
    go Ordering.eq k = absurd (omega arith)
    go Ordering.gt k = absurd (omega arith)

compare-gt : (a b : ℕ) → b < a → compare a b ≡ Ordering.gt
compare-gt a b h = go (compare a b) (compared a b)
  where
    go : (o : Ordering) → Compared o a b → o ≡ Ordering.gt
    go Ordering.lt k = absurd (omega arith)
    go Ordering.eq k = absurd (omega arith)
    go Ordering.gt k = refl

-- ---- a root whose whole part has 53 digits, with an even number of zeros put after its square

size_exact : (a n : ℕ) → 2 ^ a ≤ n → n < 2 ^ suc a → size n ≡ suc a
size_exact a n lo hi = le_antisymm (size-le n (suc a) hi) (lt_of_not-le (λ (g : size n ≤ a). not-le_of_lt (lt_of_lt_of_le (size-lt n) (pow_mono g)) lo))

module _ (v q r h : ℕ) (e : square q + r ≡ v) (l : r ≤ 2 * q) (lo : 2 ^ 52 ≤ q) (hi : q < 2 ^ 53) where
  n : ℕ
  n = v * square (2 ^ h)

  over : q * 2 ^ h ≤ isqrt n
  unfolding n
  over =
      le_of_suc-le-suc
      (square-lt-back (q * 2 ^ h) (suc (isqrt n))
      (let a = (isqrt-law n).1 in
      let b : square q * square (2 ^ h) ≤ v * square (2 ^ h) = mul-le-mul_right (square (2 ^ h)) (omega arith) in
      omega arith))

  under : isqrt n < (q + 1) * 2 ^ h
  unfolding n
  under =
      square-lt-back (isqrt n) ((q + 1) * 2 ^ h)
      (let a = (isqrt-law n).0 in
      let b : v * square (2 ^ h) < square (q + 1) * square (2 ^ h) = mul-lt-mul_of_pos_right (omega arith) (mul-pos (pow_pos h) (pow_pos h)) in
      omega arith)

  dropped : size (isqrt n) - 53 ≡ h
  dropped =
      let a : 2 ^ (52 + h) ≤ isqrt n = le_trans (le_of_eq (pow-add 2 52 h)) (le_trans (mul-le-mul_right (2 ^ h) lo) over) in
      let b : isqrt n < 2 ^ suc (52 + h) =
      subst (λ (x : ℕ). isqrt n < 2 ^ x) (omega arith)
      (lt_of_lt_of_le under (le_trans (mul-le-mul_right {m = q + 1} {n = 2 ^ 53} (2 ^ h) (omega arith)) (le_of_eq (sym (pow-add 2 53 h))))) in
      let z = size_exact (52 + h) (isqrt n) a b in
      omega arith

  kept : isqrt n / 2 ^ h ≡ q
  kept =
      let a : isqrt n / 2 ^ h < q + 1 = (div-lt_iff_lt-mul (pow_pos h)).1 under in
      let b : q ≤ isqrt n / 2 ^ h = (le-div_iff_mul-le (pow_pos h)).1 over in
      omega arith

  rounded : round_root n ≡ units binary64 false (nearest q (compare (4 * n) (square ((2 * q + 1) * 2 ^ h)))) h
  unfolding round_root
  rounded =
      ap (λ (k : ℕ). units binary64 false (nearest (isqrt n / 2 ^ k) (compare (4 * n) (square ((2 * (isqrt n / 2 ^ k) + 1) * 2 ^ k)))) k) dropped
      ∙ ap (λ (w : ℕ). units binary64 false (nearest w (compare (4 * n) (square ((2 * w + 1) * 2 ^ h)))) h) kept

  pub root-goes-up : q < r → round_root (v * square (2 ^ h)) ≡ units binary64 false (q + 1) h
  unfolding n
  root-goes-up g =
      let b : square (2 * q + 1) * square (2 ^ h) < 4 * v * square (2 ^ h) = mul-lt-mul_of_pos_right (omega arith) (mul-pos (pow_pos h) (pow_pos h)) in
      rounded
      ∙ ap (λ (o : Ordering). units binary64 false (nearest q o) h) (compare-gt (4 * n) (square ((2 * q + 1) * 2 ^ h)) (omega arith))
      ∙ ap (λ (w : ℕ). units binary64 false w h) (sym (add-one q))

  pub root-stays : r ≤ q → round_root (v * square (2 ^ h)) ≡ units binary64 false q h
  unfolding n
  root-stays g =
      let b : 4 * v * square (2 ^ h) < square (2 * q + 1) * square (2 ^ h) = mul-lt-mul_of_pos_right (omega arith) (mul-pos (pow_pos h) (pow_pos h)) in
      rounded
      ∙ ap (λ (o : Ordering). units binary64 false (nearest q o) h) (compare-lt (4 * n) (square ((2 * q + 1) * 2 ^ h)) (omega arith))

-- ---- the bits of n * 2 ^ h smallest values, for an n of 53 digits

to_bits-of : (f : Format) (x : Float) (a : ℕ) → HasValue x false a (2 ^ low f) → to_bits f x ≡ (size a - prec f) * hid f + a / 2 ^ (size a - prec f)
unfolding to_bits
to_bits-of f nan a v = absurd v
to_bits-of f (inf s) a v = absurd v
to_bits-of f (fin s m e) a v =
    let n = m * up e * 2 ^ low f / down e in
    let is : n ≡ a = ap (λ (x : ℕ). x / down e) v.1 ∙ mul-div_cancel a (down_pos e) in
    ap (λ (b : Bool). cond b (top f) 0 + (size n - prec f) * hid f + n / 2 ^ (size n - prec f)) v.0
    ∙ ap (λ (x : ℕ). 0 + (size x - prec f) * hid f + x / 2 ^ (size x - prec f)) is
    ∙ ap (λ (n : ℕ). n + a / 2 ^ (size a - prec f)) (zero-add ((size a - prec f) * hid f))

module _ (n h : ℕ) (lo : 2 ^ 52 ≤ n) where
  cut : n < 2 ^ 53 → (size (n * 2 ^ h) - 53) * 2 ^ 52 + n * 2 ^ h / 2 ^ (size (n * 2 ^ h) - 53) ≡ h * 2 ^ 52 + n
  cut hi =
      let a : 2 ^ (52 + h) ≤ n * 2 ^ h = le_trans (le_of_eq (pow-add 2 52 h)) (mul-le-mul_right (2 ^ h) lo) in
      let b : n * 2 ^ h < 2 ^ suc (52 + h) = subst (λ (x : ℕ). n * 2 ^ h < 2 ^ x) (omega arith) (shl_lt 53 h hi) in
      let z = size_exact (52 + h) (n * 2 ^ h) a b in
      let k : size (n * 2 ^ h) - 53 ≡ h = omega arith in
      ap (λ (x : ℕ). x * 2 ^ 52 + n * 2 ^ h / 2 ^ x) k ∙ ap (λ (x : ℕ). h * 2 ^ 52 + x) (mul-div_cancel n (pow_pos h))

  cut-top : n ≡ 2 ^ 53 → (size (n * 2 ^ h) - 53) * 2 ^ 52 + n * 2 ^ h / 2 ^ (size (n * 2 ^ h) - 53) ≡ h * 2 ^ 52 + n
  cut-top e =
      let p : 2 ^ (53 + h) ≡ n * 2 ^ h = pow-add 2 53 h ∙ ap (λ (x : ℕ). x * 2 ^ h) (sym e) in
      let b : n * 2 ^ h < 2 ^ suc (53 + h) = subst (λ (x : ℕ). x < 2 ^ suc (53 + h)) p (pow-lt (le_refl (suc (53 + h)))) in
      let z = size_exact (53 + h) (n * 2 ^ h) (le_of_eq p) b in
      let k : size (n * 2 ^ h) - 53 ≡ suc h = omega arith in
      let w : n * 2 ^ h ≡ 2 ^ 52 * 2 ^ suc h = ap (λ (x : ℕ). x * 2 ^ h) e ∙ omega (arith, pow-suc 2 h) in
      ap (λ (x : ℕ). x * 2 ^ 52 + n * 2 ^ h / 2 ^ x) k
      ∙ ap (λ (x : ℕ). suc h * 2 ^ 52 + x / 2 ^ suc h) w
      ∙ ap (λ (x : ℕ). suc h * 2 ^ 52 + x) (mul-div_cancel (2 ^ 52) (pow_pos (suc h)))
      ∙ omega arith

  cut-either : n ≤ 2 ^ 53 → (size (n * 2 ^ h) - 53) * 2 ^ 52 + n * 2 ^ h / 2 ^ (size (n * 2 ^ h) - 53) ≡ h * 2 ^ 52 + n
  cut-either hi = ⊎_elim cut-top cut (eq-or-lt_of_le hi)

pub units-below : (n h : ℕ) → n ≤ 2 ^ 53 → h < 2000 → n * 2 ^ h < 2 ^ (low binary64 + suc (emax binary64))
units-below n h a b = lt_of_lt_of_le (shl_lt 54 h (lt_of_le_of_lt a (lit< tt))) (pow_mono {j = 2098} (omega arith))

pub units-fits : (n h : ℕ) → n ≤ 2 ^ 53 → h < 2000 → T (fits binary64 (units binary64 false n h))
unfolding units
units-fits n h hi b =
    let l = units-below n h hi b in
    cond-fits binary64 (ltb (n * 2 ^ h) (2 ^ (low binary64 + suc (emax binary64)))) (odd 54 false n h (low binary64)) (inf false)
    (odd-fits binary64 54 false n h (lt_of_le_of_lt hi (lit< tt)) hi l) (inf-fits binary64 false)

pub units-bits : (n h : ℕ) → 2 ^ 52 ≤ n → n ≤ 2 ^ 53 → h < 2000 → of_bits binary64 (h * 2 ^ 52 + n) ≡ units binary64 false n h
units-bits n h lo hi b =
    let u = units binary64 false n h in
    let bits : to_bits binary64 u ≡ h * 2 ^ 52 + n =
    to_bits-of binary64 u (n * 2 ^ h) (units_val binary64 false n h (units-below n h hi b)) ∙ cut-either n h lo hi in
    ap (of_bits binary64) (sym bits) ∙ of_bits-to_bits binary64 u (units-fits n h hi b)

value-no-nan : (x : Float) (s : Bool) (a c : ℕ) → HasValue x s a c → is_nan x ≡ false
unfolding is_nan
value-no-nan nan s a c v = absurd v
value-no-nan (inf t) s a c v = absurd v
value-no-nan (fin t m e) s a c v = refl

pub units-no-nan : (n h : ℕ) → 2 ^ 52 ≤ n → n ≤ 2 ^ 53 → h < 2000 → nan_bits binary64 (h * 2 ^ 52 + n) ≡ false
units-no-nan n h lo hi b =
    nan_bits_is binary64 (h * 2 ^ 52 + n)
    ∙ ap is_nan (units-bits n h lo hi b)
    ∙ value-no-nan (units binary64 false n h) false (n * 2 ^ h) (2 ^ low binary64) (units_val binary64 false n h (units-below n h hi b))

-- ---- `sqrt_of` by a value in units of the smallest value

no_zero : (u l a d : ℕ) → 0 * u * l ≡ a * d → 0 < a * d → ⊥
no_zero u l a d e h = omega arith

whole_of : (m u l a d : ℕ) → 0 < d → m * u * l ≡ a * d → m * u * (l * l) / d ≡ a * l
whole_of m u l a d h e =
    let w : m * u * (l * l) ≡ a * l * d = sym (mul_assoc (m * u) l l) ∙ ap (λ (x : ℕ). x * l) e ∙ mul_right_comm a d l in
    ap (λ (x : ℕ). x / d) w ∙ mul-div_cancel (a * l) h

pub sqrt-of-value : (x : Float) (a : ℕ) → HasValue x false a (2 ^ 1074) → 0 < a → sqrt_of x ≡ round_root (a * 2 ^ 1074)
unfolding sqrt_of
sqrt-of-value nan a v h = absurd v
sqrt-of-value (inf s) a v h = absurd v
sqrt-of-value (fin s zero e) a v h = absurd (no_zero (up e) (2 ^ 1074) a (down e) v.1 (mul-pos h (down_pos e)))
sqrt-of-value (fin true (suc m) e) a v h = absurd (true≢false v.0)
sqrt-of-value (fin false (suc m) e) a v h = ap round_root (whole_of (suc m) (up e) (2 ^ 1074) a (down e) (down_pos e) v.1)

sqrt-of-negative : (x : Float) (a : ℕ) → HasValue x true a (2 ^ 1074) → 0 < a → sqrt_of x ≡ nan
unfolding sqrt_of
sqrt-of-negative nan a v h = absurd v
sqrt-of-negative (inf s) a v h = absurd v
sqrt-of-negative (fin s zero e) a v h = absurd (no_zero (up e) (2 ^ 1074) a (down e) v.1 (mul-pos h (down_pos e)))
sqrt-of-negative (fin true (suc m) e) a v h = refl
sqrt-of-negative (fin false (suc m) e) a v h = absurd (true≢false (sym v.0))

-- ---- what a pattern is read as

positive-fields : (b : ℕ) → b < 2 ^ 63 → of_bits binary64 b ≡ of_fields binary64 false (b / 2 ^ 52) (b % 2 ^ 52)
unfolding of_bits
positive-fields b h =
    ap (λ (s : Bool). of_fields binary64 s (b % 2 ^ 63 / 2 ^ 52) (b % 2 ^ 52)) (is_false (leb (2 ^ 63) b) (lt→nleb (2 ^ 63) b h))
    ∙ ap (λ (y : ℕ). of_fields binary64 false (y / 2 ^ 52) (b % 2 ^ 52)) (mod-eq_of_lt h)

negative-fields : (b : ℕ) → 2 ^ 63 ≤ b → of_bits binary64 b ≡ of_fields binary64 true (b % 2 ^ 63 / 2 ^ 52) (b % 2 ^ 52)
unfolding of_bits
negative-fields b h = ap (λ (s : Bool). of_fields binary64 s (b % 2 ^ 63 / 2 ^ 52) (b % 2 ^ 52)) (is_true (leb (2 ^ 63) b) (le→leb (2 ^ 63) b h))

low_value : (s : Bool) (t : ℕ) → HasValue (of_fields binary64 s 0 t) s t (2 ^ 1074)
unfolding of_fields
low_value s t = subst (λ (a : ℕ). HasValue (odd 53 s t 0 1074) s a (2 ^ 1074)) (mul-one t) (odd_sign 53 s t 0 1074)

normal-value : (s : Bool) (x t : ℕ) → suc x < 2047 → HasValue (of_fields binary64 s (suc x) t) s ((2 ^ 52 + t) * 2 ^ x) (2 ^ 1074)
unfolding of_fields
normal-value s x t h =
    let below : T (not (eqb (suc x) 2047)) =
    not_T (eqb (suc x) 2047) (λ u. lt_irrefl 2047 (subst (λ (y : ℕ). y < 2047) (eqb→eq (suc x) 2047 u) h)) in
    subst (λ (y : Float). HasValue y s ((2 ^ 52 + t) * 2 ^ x) (2 ^ 1074))
    (sym (cond_no (eqb (suc x) 2047) (cond (eqb t 0) (inf s) nan) (odd 53 s (2 ^ 52 + t) x 1074) below))
    (odd_sign 53 s (2 ^ 52 + t) x 1074)

-- ---- `sqrt_of` by the pattern

same : {x y : Float} → x ≡ y → y ≡ sqrt_of y → x ≡ sqrt_of x
same e s = e ∙ s ∙ ap sqrt_of (sym e)

pub sqrt-at-nan : {x : Float} → x ≡ nan → x ≡ sqrt_of x
unfolding sqrt_of
sqrt-at-nan e = same e refl

pub sqrt-at-zero : {x : Float} → x ≡ of_bits binary64 0 → x ≡ sqrt_of x
unfolding sqrt_of of_bits
sqrt-at-zero e = same e refl

pub sqrt-at-minus-zero : {x : Float} → x ≡ of_bits binary64 (2 ^ 63) → x ≡ sqrt_of x
unfolding sqrt_of of_bits
sqrt-at-minus-zero e = same e refl

pub sqrt-at-top : (x : Float) (b : ℕ) → x ≡ of_bits binary64 b → 0x7ff0_0000_0000_0000 ≤ b → b < 2 ^ 63 → x ≡ sqrt_of x
unfolding sqrt_of of_fields
sqrt-at-top x b e lo hi =
    same (e ∙ positive-fields b hi ∙ ap (λ (f : ℕ). of_fields binary64 false f (b % 2 ^ 52)) field) (either (eqb (b % 2 ^ 52) 0))
  where
    field : b / 2 ^ 52 ≡ 2047
    field = omega arith

    either : (q : Bool) → cond q (inf false) nan ≡ sqrt_of (cond q (inf false) nan)
    either true = refl
    either false = refl

pub sqrt-at-negative : (x : Float) (b : ℕ) → x ≡ of_bits binary64 b → 2 ^ 63 < b → b < 2 ^ 64 → sqrt_of x ≡ nan
unfolding sqrt_of of_fields
sqrt-at-negative x b e lo hi = ap sqrt_of (e ∙ negative-fields b (omega arith)) ∙ go (b % 2 ^ 63 / 2 ^ 52) (b % 2 ^ 52) (omega arith)
  where
    top_field : (p q : Bool) (y : Float) → sqrt_of y ≡ nan → sqrt_of (cond p (cond q (inf true) nan) y) ≡ nan
    top_field true true y h = refl
    top_field true false y h = refl
    top_field false q y h = h

    go : (f t : ℕ) → (f ≡ 0 → 0 < t) → sqrt_of (of_fields binary64 true f t) ≡ nan
    go zero t h = sqrt-of-negative (of_fields binary64 true 0 t) t (low_value true t) (h refl)
    go (suc f) t h =
        top_field (eqb (suc f) 2047) (eqb t 0) (odd 53 true (2 ^ 52 + t) f 1074)
        (sqrt-of-negative (odd 53 true (2 ^ 52 + t) f 1074) ((2 ^ 52 + t) * 2 ^ f) (odd_sign 53 true (2 ^ 52 + t) f 1074) (mul-pos (omega arith) (pow_pos f)))

pub sqrt-at-low : (x : Float) (b : ℕ) → x ≡ of_bits binary64 b → 0 < b → b / 2 ^ 52 ≡ 0 → sqrt_of x ≡ round_root (b % 2 ^ 52 * 2 ^ 1074)
sqrt-at-low x b e lo z =
    ap sqrt_of (e ∙ positive-fields b (omega arith) ∙ ap (λ (f : ℕ). of_fields binary64 false f (b % 2 ^ 52)) z)
    ∙ sqrt-of-value (of_fields binary64 false 0 (b % 2 ^ 52)) (b % 2 ^ 52) (low_value false (b % 2 ^ 52)) (omega arith)

pub sqrt-at-normal : (x : Float) (b : ℕ) → x ≡ of_bits binary64 b → b < 0x7ff0_0000_0000_0000 → (b / 2 ^ 52 ≡ 0 → ⊥)
    → sqrt_of x ≡ round_root ((2 ^ 52 + b % 2 ^ 52) * 2 ^ (b / 2 ^ 52 + 1021 + 52))
sqrt-at-normal x b e hi nz =
    let t = b % 2 ^ 52 in
    let f = b / 2 ^ 52 - 1 in
    let is : b / 2 ^ 52 ≡ suc f = omega arith in
    ap sqrt_of (e ∙ positive-fields b (omega arith) ∙ ap (λ (g : ℕ). of_fields binary64 false g t) is)
    ∙ sqrt-of-value (of_fields binary64 false (suc f) t) ((2 ^ 52 + t) * 2 ^ f) (normal-value false f t (omega arith)) (mul-pos (omega arith) (pow_pos f))
    ∙ ap round_root
    (mul_assoc (2 ^ 52 + t) (2 ^ f) (2 ^ 1074) ∙ ap (λ (y : ℕ). (2 ^ 52 + t) * y) (sym (pow-add 2 f 1074) ∙ ap (λ (k : ℕ). 2 ^ k) (omega arith)))
