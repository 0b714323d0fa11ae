-- What makes `sqrt_of` believable, whatever way it is worked out: the square root of a finite number above zero is the number of the format that is
-- nearest to it, and no other is as near (`sqrt-rounds`). Its special cases are in Constants.antt. Assumes nothing.
use mathlib.Core.Path.{◌≡◌, refl, sym, ap, ◌∙◌, subst}
use mathlib.Core.Logic.{⊎_elim}
use mathlib.Core.Bool.{Bool, true, false, ◌&&◌, true≢false}
use Prim.Native.Nat.{ℕ, zero, suc, ◌+◌, ◌-◌, ◌*◌, ◌/◌, ◌%◌, ◌^◌, ◌≤◌, ◌<◌, compare, Ordering}
use native.Mathlib.Nat.{le_trans, le_of_eq, le_of_lt, le_of_suc-le-suc, lt_of_lt_of_le, lt_of_le_of_lt, lt_of_not-le, not-le_of_lt, mul_assoc, mul-one}
use native.Mathlib.Nat.{one-mul, mul-pos, mul_right_comm, eq_of_mul-eq-mul_right, mul-le-mul_right, mul-lt-mul_of_pos_right, lt_of_mul-lt-mul_right}
use native.Mathlib.Nat.{pow-suc, div-mul-le_self, div-lt_iff_lt-mul, le-div_iff_mul-le}
use native.Mathlib.Omega.{arith}
use lib.Dec.{T, eqb, ltb, leb, ltb→lt, leb→le}
use lib.Arith.{lt_of_le-ne}
use lib.IntN.{ℤ, pos, negsuc}
use lib.Pow.{pow-add, pow_pos, pow_mono, pow-lt, shl_lt}
use lib.Ieee.{Float, nan, inf, fin, binary64, up, down, size, nearest, units, fits, lt, of_bits}
use lib.Ieee.Exact.{HasValue, units_val}
use lib.Ieee.Fits.{nearest-le, kept-lt, down_pos, and_l, and_r}
use lib.Ieee.Digits.{size_reaches, size-le}
use borrow.Author.Tests.{ltb-true}
use Rattle.model.specs.Scalar.{zero_f, is_finite}
use Rattle.model.specs.Root.{square, isqrt, round_root, sqrt_of}
use Rattle.model.proofs.Root.{square_le, square-lt-back, isqrt-law, Compared, compared, le-or-lt, units-below, units-fits, sqrt-of-value}

-- ---- the nearest number, over whole numbers

-- what `round_root` has: the places dropped, the leading digits kept, and what they are rounded to
abbrev places : ℕ → ℕ
places n = size (isqrt n) - 53

abbrev leading : ℕ → ℕ
leading n = isqrt n / 2 ^ places n

abbrev rounded : ℕ → ℕ
rounded n = nearest (leading n) (compare (4 * n) (square ((2 * leading n + 1) * 2 ^ places n)))

round_root-is : (n : ℕ) → round_root n ≡ units binary64 false (rounded n) (places n)
unfolding round_root
round_root-is n = refl

-- √n is on R's side of the middle between R and j, or in the middle
abbrev NoNearer : ℕ → ℕ → ℕ → Type 0
NoNearer n R j = (R < j → 4 * n ≤ square (R + j)) × (j < R → square (R + j) ≤ 4 * n)

-- √n is on R's side of the middle between R and j: R is nearer
abbrev pub Nearer : ℕ → ℕ → ℕ → Type 0
Nearer n R j = (R < j → 4 * n < square (R + j)) × (j < R → square (R + j) < 4 * n)

-- a number of 53 digits, with zeros after them
pub record Digits53 (x : ℕ) : Type 0 where
  pub digits : ℕ
  pub zeros : ℕ
  pub few : digits < 2 ^ 53
  pub is : x ≡ digits * 2 ^ zeros

-- between c * 2 ^ k and (c + 1) * 2 ^ k there is no number of 53 digits, if c itself has 53 or k is 0
pub gap : (c k m e : ℕ) → (0 < k → 2 ^ 52 ≤ c) → m < 2 ^ 53 → c * 2 ^ k < m * 2 ^ e → (c + 1) * 2 ^ k ≤ m * 2 ^ e
gap c k m e long small h = ⊎_elim far near (le-or-lt k e)
  where
    far : k ≤ e → (c + 1) * 2 ^ k ≤ m * 2 ^ e
    far g =
        let sum : e - k + k ≡ e = omega arith in
        let is : m * 2 ^ e ≡ m * 2 ^ (e - k) * 2 ^ k =
        ap (λ (x : ℕ). m * 2 ^ x) (sym sum) ∙ ap (λ (x : ℕ). m * x) (pow-add 2 (e - k) k) ∙ sym (mul_assoc m (2 ^ (e - k)) (2 ^ k)) in
        let less : c < m * 2 ^ (e - k) = lt_of_mul-lt-mul_right (2 ^ k) (subst (λ (x : ℕ). c * 2 ^ k < x) is h) in
        subst (λ (x : ℕ). (c + 1) * 2 ^ k ≤ x) (sym is) (mul-le-mul_right (2 ^ k) (omega arith))

    near : e < k → (c + 1) * 2 ^ k ≤ m * 2 ^ e
    near g =
        let a : m * 2 ^ e < 2 ^ (53 + e) = shl_lt 53 e small in
        let b : 2 ^ (53 + e) ≤ 2 ^ (52 + k) = pow_mono (omega arith) in
        let d : 2 ^ (52 + k) ≤ c * 2 ^ k = le_trans (le_of_eq (pow-add 2 52 k)) (mul-le-mul_right (2 ^ k) (long (omega arith))) in
        omega arith

module _ (n q p j : ℕ) (lo : square (q * p) ≤ n) (hi : n < square ((q + 1) * p)) (none : q * p < j → (q + 1) * p ≤ j) where
  lower : 4 * n ≤ square ((2 * q + 1) * p) → NoNearer n (q * p) j
  lower h = (
    (λ (g : q * p < j).
        le_trans h (square_le (omega (arith, none g)))),
    (λ (g : j < q * p).
        let a : square (q * p + j) ≤ square (2 * (q * p)) = square_le (omega arith) in
        omega arith),
  )

  upper : square ((2 * q + 1) * p) ≤ 4 * n → NoNearer n ((q + 1) * p) j
  upper h = (
    (λ (g : (q + 1) * p < j).
        let a : square (2 * ((q + 1) * p)) ≤ square ((q + 1) * p + j) = square_le (omega arith) in
        omega arith),
    (λ (g : j < (q + 1) * p).
        let b : j ≤ q * p = ⊎_elim (λ (x : j ≤ q * p). x) (λ (x : q * p < j). absurd (not-le_of_lt g (none x))) (le-or-lt j (q * p)) in
        le_trans (square_le (omega arith)) h),
  )

  -- by how 4 * n compares with the square of (2 * q + 1) * p
  either : (o : Ordering) → Compared o (4 * n) (square ((2 * q + 1) * p)) → NoNearer n (nearest q o * p) j
  either Ordering.lt c = lower (le_of_lt c)
  either Ordering.eq c = go (q % 2) refl
    where
      go : (r : ℕ) → q % 2 ≡ r → NoNearer n ((q + r) * p) j
      go zero e = subst (λ (x : ℕ). NoNearer n (x * p) j) (omega arith) (lower (le_of_eq c))
      go (suc r) e = subst (λ (x : ℕ). NoNearer n (x * p) j) (omega arith) (upper (le_of_eq (sym c)))
  either Ordering.gt c = subst (λ (x : ℕ). NoNearer n (x * p) j) (omega arith) (upper (le_of_lt c))

-- of all numbers of 53 digits, with any zeros after them, none is nearer to √n than the one that `round_root` makes
no-nearer : (n j : ℕ) → Digits53 j → NoNearer n (rounded n * 2 ^ places n) j
no-nearer n j d =
    let m = d.digits in
    let e = d.zeros in
    let w = isqrt n in
    let k = places n in
    let q = leading n in
    let kept : q * 2 ^ k ≤ w = div-mul-le_self w (2 ^ k) in
    let next : w < (q + 1) * 2 ^ k = (div-lt_iff_lt-mul (pow_pos k)).0 (omega arith) in
    let long : 0 < k → 2 ^ 52 ≤ q =
    λ g. (le-div_iff_mul-le (pow_pos k)).1 (le_trans (le_of_eq (sym (pow-add 2 52 k))) (size_reaches w (52 + k) (omega arith))) in
    subst (λ (x : ℕ). NoNearer n (rounded n * 2 ^ k) x) (sym d.is)
    (either n q (2 ^ k) (m * 2 ^ e)
    (le_trans (square_le kept) (isqrt-law n).0)
    (lt_of_lt_of_le (isqrt-law n).1 (square_le (omega arith)))
    (gap q k m e long d.few)
    (compare (4 * n) (square ((2 * q + 1) * 2 ^ k)))
    (compared (4 * n) (square ((2 * q + 1) * 2 ^ k))))

-- ---- and none is as near: a middle whose square has 53 digits would itself have them

halved : (x c : ℕ) → square x ≡ 4 * c → (x ≡ 2 * (x / 2)) × (square (x / 2) ≡ c)
halved x c e = go (x % 2) (x / 2) (omega arith) (omega arith)
  where
    go : (r y : ℕ) → r < 2 → x ≡ 2 * y + r → (x ≡ 2 * y) × (square y ≡ c)
    go zero y h is = let w : square (2 * y + 0) ≡ 4 * c = ap square (sym is) ∙ e in omega arith
    go (suc zero) y h is = let w : square (2 * y + 1) ≡ 4 * c = ap square (sym is) ∙ e in absurd (omega arith)
    go (suc (suc r)) y h is = absurd (omega arith)

short-root : (x m t : ℕ) → m < 2 ^ 53 → square x ≡ m * 2 ^ t → Digits53 x
short-root x m zero h e = record { digits = x; zeros = 0; few = square-lt-back x (2 ^ 53) (omega arith); is = omega arith }
short-root x m (suc zero) h e = record { digits = x; zeros = 0; few = square-lt-back x (2 ^ 53) (omega arith); is = omega arith }
short-root x m (suc (suc t)) h e =
    let twice : m * 2 ^ suc (suc t) ≡ 4 * (m * 2 ^ t) = ap (λ (p : ℕ). m * p) (pow-suc 2 (suc t)) ∙ omega (arith, ap (λ (p : ℕ). m * p) (pow-suc 2 t)) in
    let half = halved x (m * 2 ^ t) (e ∙ twice) in
    let rest = short-root (x / 2) m t h half.1 in
    let d = rest.digits in
    let z = rest.zeros in
    record { digits = d; zeros = suc z; few = rest.few; is = omega (arith, half.0, rest.is, ap (λ (p : ℕ). d * p) (pow-suc 2 z)) }

-- where n has 53 digits with zeros after them, and no number with them is nearer to √n than R, no other is as near
module _ (n R m t : ℕ) (few : m < 2 ^ 53) (is : n ≡ m * 2 ^ t) (weak : (j : ℕ) → Digits53 j → NoNearer n R j) where
  -- with R + j = 2 * w in the middle, w itself is the root, so R is w
  tie : (j : ℕ) → square (R + j) ≡ 4 * n → R ≡ j
  tie j e = go (compare R w) (compared R w)
    where
      w : ℕ
      w = (R + j) / 2

      middle : (R + j ≡ 2 * w) × (square w ≡ n)
      middle = halved (R + j) n e

      near : NoNearer n R w
      near = weak w (short-root w m t few (middle.1 ∙ is))

      go : (o : Ordering) → Compared o R w → R ≡ j
      go Ordering.lt l = let a : square (R + w + 1) ≤ square (2 * w) = square_le (omega arith) in absurd (omega (arith, near.0 l, middle.1))
      go Ordering.eq l = omega (arith, middle.0)
      go Ordering.gt l = let a : square (2 * w + 1) ≤ square (R + w) = square_le (omega arith) in absurd (omega (arith, near.1 l, middle.1))

  strict : (j : ℕ) → Digits53 j → Nearer n R j
  strict j d = (
    (λ (g : R < j). lt_of_le-ne ((weak j d).0 g) (λ e. absurd (omega (arith, tie j (sym e))))),
    (λ (g : j < R). lt_of_le-ne ((weak j d).1 g) (λ e. absurd (omega (arith, tie j e)))),
  )

-- of all numbers of 53 digits, with any zeros after them, the one that `round_root` makes is nearest to the root of such a number
nearest-law : (a t : ℕ) → Digits53 a → (j : ℕ) → Digits53 j → Nearer (a * 2 ^ t) (rounded (a * 2 ^ t) * 2 ^ places (a * 2 ^ t)) j
nearest-law a t d =
    let m = d.digits in
    let z = d.zeros in
    let is : a * 2 ^ t ≡ m * 2 ^ (z + t) =
    ap (λ (x : ℕ). x * 2 ^ t) d.is ∙ mul_assoc m (2 ^ z) (2 ^ t) ∙ ap (λ (x : ℕ). m * x) (sym (pow-add 2 z t)) in
    strict (a * 2 ^ t) (rounded (a * 2 ^ t) * 2 ^ places (a * 2 ^ t)) m (z + t) d.few is (no-nearer (a * 2 ^ t))

-- ---- over the numbers of the format, in its smallest values, 2 ^ -1074

pub pow_le_back : (a b : ℕ) → 2 ^ a ≤ 2 ^ b → a ≤ b
pow_le_back a b h = le_of_suc-le-suc (lt_of_not-le (λ (g : suc b ≤ a). not-le_of_lt (pow-lt g) h))

-- 2 ^ e is 2 ^ j of them
pub placed : (l : ℕ) (e : ℤ) → down e ≤ 2 ^ l → (j : ℕ) × (up e * 2 ^ l ≡ 2 ^ j * down e)
placed l (pos k) h = (k + l, sym (pow-add 2 k l) ∙ sym (mul-one (2 ^ (k + l))))
placed l (negsuc k) h =
    let g : suc k ≤ l = pow_le_back (suc k) l h in
    (l - suc k, one-mul (2 ^ l) ∙ ap (λ (x : ℕ). 2 ^ x) (omega arith) ∙ pow-add 2 (l - suc k) (suc k))

-- what the format asks of a number other than zero: few digits, no smaller step, below 2 ^ 1024
pub asked : (s : Bool) (m : ℕ) (e : ℤ) → T (fits binary64 (fin s (suc m) e))
    → (suc m < 2 ^ 53) × (down e ≤ 2 ^ 1074) × (suc m * up e < 2 ^ 1024 * down e)
unfolding fits
asked s m e f =
    let a : Bool = eqb (suc m % 2) 1 in
    let b : Bool = ltb (suc m) (2 ^ 53) in
    let c : Bool = leb (down e) (2 ^ 1074) in
    let d : Bool = ltb (suc m * up e) (2 ^ 1024 * down e) in
    let abc : T (a && b && c) = and_l (a && b && c) d f in (
      ltb→lt (suc m) (2 ^ 53) (and_r a b (and_l (a && b) c abc)),
      leb→le (down e) (2 ^ 1074) (and_r (a && b) c abc),
      ltb→lt (suc m * up e) (2 ^ 1024 * down e) (and_r (a && b && c) d f),
    )

-- what is known of a where a finite number of the format is a of them
pub record Held (a : ℕ) : Type 0 where
  pub digits : Digits53 a
  pub below : a < 2 ^ 2098

pub multiple : (m u l p d : ℕ) → u * l ≡ p * d → m * u * l ≡ m * p * d
multiple m u l p d h = mul_assoc m u l ∙ ap (λ (x : ℕ). m * x) h ∙ sym (mul_assoc m p d)

pub in-range : (a m u l t d : ℕ) → 0 < d → 0 < l → m * u * l ≡ a * d → m * u < t * d → a < t * l
in-range a m u l t d hd hl e h =
    lt_of_mul-lt-mul_right d (lt_of_le_of_lt (le_of_eq (sym e)) (lt_of_lt_of_le (mul-lt-mul_of_pos_right h hl) (le_of_eq (mul_right_comm t d l))))

nought : (u l a d : ℕ) → 0 < d → 0 * u * l ≡ a * d → a ≡ 0
nought u l a d h e = eq_of_mul-eq-mul_right d h a 0 (omega arith)

pub held : (y : Float) (s : Bool) (a : ℕ) → T (fits binary64 y) → HasValue y s a (2 ^ 1074) → Held a
held nan s a f v = absurd v
held (inf t) s a f v = absurd v
held (fin t zero e) s a f v =
    let z = nought (up e) (2 ^ 1074) a (down e) (down_pos e) v.1 in
    record { digits = record { digits = 0; zeros = 0; few = pow_pos 53; is = z }; below = subst (λ (x : ℕ). x < 2 ^ 2098) (sym z) (pow_pos 2098) }
held (fin t (suc m) e) s a f v =
    let k = asked t m e f in
    let p = placed 1074 e k.1 in
    let is : a ≡ suc m * 2 ^ p.0 =
    eq_of_mul-eq-mul_right (down e) (down_pos e) a (suc m * 2 ^ p.0) (sym v.1 ∙ multiple (suc m) (up e) (2 ^ 1074) (2 ^ p.0) (down e) p.1) in
    record {
      digits = record { digits = suc m; zeros = p.0; few = k.0; is = is };
      below = in-range a (suc m) (up e) (2 ^ 1074) (2 ^ 1024) (down e) (down_pos e) (pow_pos 1074) v.1 k.2;
    }

-- x is `size` of them, and above zero; so √x is √(size * 2 ^ 1074) of them. r is `root` of them, a number of the format, and nearer to √x than any
-- other of the format's finite numbers: what is below zero is farther from it than zero is.
pub record Rounds (x r : Float) : Type 0 where
  pub size : ℕ
  pub of : HasValue x false size (2 ^ 1074)
  pub root : ℕ
  pub is : HasValue r false root (2 ^ 1074)
  pub fit : T (fits binary64 r)
  pub nearest : (y : Float) (j : ℕ) → T (fits binary64 y) → HasValue y false j (2 ^ 1074) → Nearer (size * 2 ^ 1074) root j

rounds-at : (x : Float) (a : ℕ) → HasValue x false a (2 ^ 1074) → 0 < a → Held a → Rounds x (sqrt_of x)
rounds-at x a v lo h =
    let n = a * 2 ^ 1074 in
    let w = isqrt n in
    let k = places n in
    let below : w < 2 ^ 1586 =
    square-lt-back w (2 ^ 1586) (lt_of_le_of_lt (isqrt-law n).0 (mul-lt-mul_of_pos_right {n = 2 ^ 2098} h.below (pow_pos 1074))) in
    let few : size w ≤ 1586 = size-le w 1586 below in
    let digits : rounded n ≤ 2 ^ 53 = le_trans (nearest-le (leading n) (compare (4 * n) (square ((2 * leading n + 1) * 2 ^ k)))) (kept-lt 53 w) in
    let r = sqrt-of-value x a v lo ∙ round_root-is n in
    record {
      size = a;
      of = v;
      root = rounded n * 2 ^ k;
      is =
          subst (λ (y : Float). HasValue y false (rounded n * 2 ^ k) (2 ^ 1074)) (sym r)
          (units_val binary64 false (rounded n) k (units-below (rounded n) k digits (omega arith)));
      fit = subst (λ (y : Float). T (fits binary64 y)) (sym r) (units-fits (rounded n) k digits (omega arith));
      nearest = λ y j f u. nearest-law a 1074 h.digits j (held y false j f u).digits;
    }

pub sqrt-rounds : (x : Float) → T (fits binary64 x) → lt zero_f x ≡ true → is_finite x ≡ true → Rounds x (sqrt_of x)
unfolding lt of_bits is_finite
sqrt-rounds nan f l h = absurd (true≢false (sym h))
sqrt-rounds (inf s) f l h = absurd (true≢false (sym h))
sqrt-rounds (fin true m e) f l h = absurd (true≢false (sym l))
sqrt-rounds (fin false zero e) f l h = absurd (omega (arith, ltb-true (0 * 1 * down e) (0 * up e * 1) l))
sqrt-rounds (fin false (suc m) e) f l h =
    let p = placed 1074 e (asked false m e f).1 in
    let v : HasValue (fin false (suc m) e) false (suc m * 2 ^ p.0) (2 ^ 1074) = (refl, multiple (suc m) (up e) (2 ^ 1074) (2 ^ p.0) (down e) p.1) in
    rounds-at (fin false (suc m) e) (suc m * 2 ^ p.0) v (mul-pos (omega arith) (pow_pos p.0)) (held (fin false (suc m) e) false (suc m * 2 ^ p.0) f v)
