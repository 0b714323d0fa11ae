-- A square rounded to 53 digits and the root of that, over whole numbers. A reader may rely on `squared` (what rounding leaves of a square) and on
-- `root-back`: of all numbers of 53 digits the square's own root is nearest to the root of the rounded square. Assumes nothing.
use mathlib.Core.Path.{◌≡◌, sym, ap, ◌∙◌, subst}
use mathlib.Core.Logic.{⊎_elim}
use Prim.Native.Nat.{ℕ, zero, suc, ◌+◌, ◌-◌, ◌*◌, ◌/◌, ◌%◌, ◌^◌, ◌≤◌, ◌<◌, compare, Ordering}
use native.Mathlib.Nat.{le_trans, le_of_eq, le_of_suc-le-suc, le_antisymm, lt_of_not-le, not-le_of_lt, lt_of_lt_of_le, mul_assoc, mul_comm, mul-pos}
use native.Mathlib.Nat.{mul-le-mul, mul-le-mul_right, mul-le-mul_left, le_of_mul-le-mul_right, mod-lt, div-add-mod', div-mul-le_self}
use native.Mathlib.Nat.{div-lt_iff_lt-mul, le-div_iff_mul-le}
use native.Mathlib.Omega.{arith}
use lib.Pow.{pow-add, pow_pos, pow_mono}
use lib.Ieee.{size, nearest}
use lib.Ieee.Digits.{size-lt, size_reaches}
use lib.Ieee.Fits.{kept-lt}
use lib.Ieee.Nearest.{closest, closest_same}
use lib.Ieee.Order.{drop, kept}
use Rattle.model.specs.Root.{square}
use Rattle.model.proofs.Root.{Compared, compared, le-or-lt, square_le}
use Rattle.model.proofs.Nearest.{Nearer, Digits53, gap, pow_le_back}

-- ---- the multiple of u closest to n is off by half of u at most

abbrev Near : ℕ → ℕ → ℕ → Type 0
Near N n u = (2 * N ≤ 2 * n + u) × (2 * n ≤ 2 * N + u)

nearest-near : (q r u n : ℕ) (o : Ordering) → q * u + r ≡ n → r < u → Compared o (r * 2) u → Near (nearest q o * u) n u
nearest-near q r u n Ordering.lt e h c = omega arith
nearest-near q r u n Ordering.eq e h c = go (q % 2) (omega arith)
  where
    go : (b : ℕ) → b < 2 → Near ((q + b) * u) n u
    go zero g = omega arith
    go (suc zero) g = omega arith
    go (suc (suc b)) g = absurd (omega arith)
nearest-near q r u n Ordering.gt e h c = omega arith

closest-near : (n u : ℕ) → 0 < u → Near (closest n u * u) n u
closest-near n u h = nearest-near (n / u) (n % u) u n (compare (n % u * 2) u) (div-add-mod' n u) (mod-lt n h) (compared (n % u * 2) u)

-- N is the square of a rounded to a multiple of 2 ^ power, of which the square has 2 ^ 52 at least
pub record Squared (a N : ℕ) : Type 0 where
  pub power : ℕ
  pub times : ℕ
  pub is : N ≡ times * 2 ^ power
  pub near : Near N (a * a) (2 ^ power)
  pub long : 2 ^ 52 * 2 ^ power ≤ a * a
  pub high : 52 ≤ power

whole-digits : (z : ℕ) → 53 ≤ z → 52 + (z - 53) < z
whole-digits z h = omega arith

-- what rounding leaves of a * a / (l * l) in units of 1 / l, l being 2 ^ t, where it is in the normal range
pub squared : (a t : ℕ) → 52 ≤ t → 53 ≤ size (a * a * 2 ^ t / (2 ^ t * 2 ^ t))
    → Squared a (kept 53 (a * a * 2 ^ t) (2 ^ t * 2 ^ t) * 2 ^ drop 53 (a * a * 2 ^ t) (2 ^ t * 2 ^ t) * 2 ^ t)
squared a t g h =
    let l = 2 ^ t in
    let w = a * a * l / (l * l) in
    let d = size w - 53 in
    let u : 2 ^ (d + t) ≡ 2 ^ d * l = pow-add 2 d t in
    let same : closest (a * a * l) (l * l * 2 ^ d) ≡ closest (a * a) (2 ^ (d + t)) =
    closest_same (a * a * l) (l * l * 2 ^ d) (a * a) (2 ^ (d + t)) (mul-pos (mul-pos (pow_pos t) (pow_pos t)) (pow_pos d)) (pow_pos (d + t))
    (ap (λ (x : ℕ). a * a * l * x) u ∙ simp (mul_assoc, mul_comm)) in
    let c = closest (a * a) (2 ^ (d + t)) in
    let is : closest (a * a * l) (l * l * 2 ^ d) * 2 ^ d * l ≡ c * 2 ^ (d + t) =
    ap (λ (x : ℕ). x * 2 ^ d * l) same ∙ mul_assoc c (2 ^ d) l ∙ ap (λ (x : ℕ). c * x) (sym u) in
    let reach : 2 ^ (52 + d) * (l * l) ≤ a * a * l =
    (le-div_iff_mul-le (mul-pos (pow_pos t) (pow_pos t))).0 (size_reaches w (52 + d) (whole-digits (size w) h)) in
    let long : 2 ^ (52 + d) * l ≤ a * a = le_of_mul-le-mul_right (le_trans (le_of_eq (mul_assoc (2 ^ (52 + d)) l l)) reach) (pow_pos t) in
    record {
      power = d + t;
      times = c;
      is = is;
      near = subst (λ (x : ℕ). Near x (a * a) (2 ^ (d + t))) (sym is) (closest-near (a * a) (2 ^ (d + t)) (pow_pos (d + t)));
      long = le_trans (le_of_eq (ap (λ (x : ℕ). 2 ^ 52 * x) u ∙ sym (mul_assoc (2 ^ 52) (2 ^ d) l) ∙ ap (λ (x : ℕ). x * l) (sym (pow-add 2 52 d)))) long;
      high = omega arith;
    }

-- ---- a number of 53 digits, the first of them not 0, with zeros after them

record Leading (a : ℕ) : Type 0 where
  pub digits : ℕ
  pub zeros : ℕ
  pub first : 2 ^ 52 ≤ digits
  pub few : digits < 2 ^ 53
  pub is : a ≡ digits * 2 ^ zeros

large : (a u : ℕ) → 2 ^ 52 ≤ u → 2 ^ 52 * u ≤ a * a → 2 ^ 52 ≤ a
large a u h g =
    le_of_suc-le-suc
    (lt_of_not-le
    (λ (k : suc a ≤ 2 ^ 52).
    let p : suc a * suc a ≤ 2 ^ 52 * 2 ^ 52 = mul-le-mul k k in
    let q : 2 ^ 52 * 2 ^ 52 ≤ 2 ^ 52 * u = mul-le-mul_left (2 ^ 52) h in
    omega arith))

leading : (a : ℕ) → Digits53 a → 2 ^ 52 ≤ a → Leading a
leading a s h =
    let z : 53 ≤ size a = lt_of_not-le (λ (g : size a ≤ 52). not-le_of_lt (lt_of_lt_of_le (size-lt a) (pow_mono g)) h) in
    let k = size a - 53 in
    let m = a / 2 ^ k in
    let first : 2 ^ 52 ≤ m =
    (le-div_iff_mul-le (pow_pos k)).1 (le_trans (le_of_eq (sym (pow-add 2 52 k))) (size_reaches a (52 + k) (whole-digits (size a) z))) in
    let next : a < (m + 1) * 2 ^ k = (div-lt_iff_lt-mul (pow_pos k)).0 (omega arith) in
    let none : m * 2 ^ k < a → (m + 1) * 2 ^ k ≤ a =
    λ g. subst (λ (x : ℕ). (m + 1) * 2 ^ k ≤ x) (sym s.is)
    (gap m k s.digits s.zeros (λ t. first) s.few (subst (λ (x : ℕ). m * 2 ^ k < x) s.is g)) in
    record {
      digits = m;
      zeros = k;
      first = first;
      few = kept-lt 53 a;
      is = le_antisymm (⊎_elim (λ (g : a ≤ m * 2 ^ k). g) (λ (g : m * 2 ^ k < a). absurd (not-le_of_lt next (none g))) (le-or-lt a (m * 2 ^ k)))
          (div-mul-le_self a (2 ^ k));
    }

-- ---- the root: m * p is squared, m having 53 digits, and the unit u is at most (2 * m - 1) * p * p

unit-below : (m u p : ℕ) → 2 ^ 52 ≤ m → m < 2 ^ 53 → 2 ^ 52 * u ≤ m * p * (m * p) → u + p * p ≤ 2 * (m * (p * p))
unit-below m u p lo hi h =
    let a : m * m + m ≤ m * 2 ^ 53 = le_trans (omega arith) (mul-le-mul_left m hi) in
    let b : (m * m + 2 ^ 52) * (p * p) ≤ m * 2 ^ 53 * (p * p) = mul-le-mul_right (p * p) (omega arith) in
    omega arith

-- r is the next number of 53 digits, or above it
not-above : (m u p N r : ℕ) → u + p * p ≤ 2 * (m * (p * p)) → 2 * N ≤ 2 * (m * p * (m * p)) + u → (m + 1) * p ≤ r
    → square (r + m * p) < 4 * N → 0 < p * p → ⊥
not-above m u p N r b n g h P = let s : square ((2 * m + 1) * p) ≤ square (r + m * p) = square_le (omega arith) in omega arith

-- r is the last one below (c + 1) * p, or below it
not-below : (c u p N r : ℕ) → u + p * p ≤ 2 * ((c + 1) * (p * p)) → 2 * ((c + 1) * p * ((c + 1) * p)) ≤ 2 * N + u → r ≤ c * p
    → 4 * N < square (r + (c + 1) * p) → ⊥
not-below c u p N r b n g h = let s : square (r + (c + 1) * p) ≤ square ((2 * c + 1) * p) = square_le (omega arith) in omega arith

not-below-exact : (a N r : ℕ) → N ≡ a * a → r < a → 4 * N < square (r + a) → ⊥
not-below-exact a N r e g h = let s : square (r + a) ≤ square (2 * a) = square_le (omega arith) in omega arith

-- a multiple of u that is near to a multiple of u is that one
near-multiple : (c q u : ℕ) → 0 < u → Near (c * u) (q * u) u → c ≡ q
near-multiple c q u h n =
    let a : 2 * c ≤ 2 * q + 1 = le_of_mul-le-mul_right {k = u} (omega (arith, n.0)) h in
    let b : 2 * q ≤ 2 * c + 1 = le_of_mul-le-mul_right {k = u} (omega (arith, n.1)) h in
    omega arith

-- the square of a power of two is exact
exact : (a N j : ℕ) (s : Squared a N) → a ≡ 2 ^ j → N ≡ a * a
exact a N j s e =
    let u = s.power in
    let aa : a * a ≡ 2 ^ (j + j) = ap (λ (x : ℕ). x * x) e ∙ sym (pow-add 2 j j) in
    let fit : u ≤ j + j = pow_le_back u (j + j) (le_trans (omega arith) (le_trans s.long (le_of_eq aa))) in
    let sum : j + j - u + u ≡ j + j = omega arith in
    let q : a * a ≡ 2 ^ (j + j - u) * 2 ^ u = aa ∙ ap (λ (x : ℕ). 2 ^ x) (sym sum) ∙ pow-add 2 (j + j - u) u in
    let n : Near (s.times * 2 ^ u) (2 ^ (j + j - u) * 2 ^ u) (2 ^ u) =
    subst (λ (x : ℕ). Near x (2 ^ (j + j - u) * 2 ^ u) (2 ^ u)) s.is (subst (λ (x : ℕ). Near N x (2 ^ u)) q s.near) in
    s.is ∙ ap (λ (x : ℕ). x * 2 ^ u) (near-multiple s.times (2 ^ (j + j - u)) (2 ^ u) (pow_pos u) n) ∙ sym q

module _ (m k N r : ℕ) (first : 2 ^ 52 ≤ m) (few : m < 2 ^ 53) (s : Squared (m * 2 ^ k) N) (d : Digits53 r) (near : Nearer N r (m * 2 ^ k)) where
  beyond : (c : ℕ) → 2 ^ 52 ≤ c → c * 2 ^ k < r → (c + 1) * 2 ^ k ≤ r
  beyond c h g =
      subst (λ (x : ℕ). (c + 1) * 2 ^ k ≤ x) (sym d.is)
      (gap c k d.digits d.zeros (λ t. h) d.few (subst (λ (x : ℕ). c * 2 ^ k < x) d.is g))

  unit : 2 ^ s.power + 2 ^ k * 2 ^ k ≤ 2 * (m * (2 ^ k * 2 ^ k))
  unit = unit-below m (2 ^ s.power) (2 ^ k) first few s.long

  above : m * 2 ^ k < r → ⊥
  above g = not-above m (2 ^ s.power) (2 ^ k) N r unit s.near.0 (beyond m first g) (near.1 g) (mul-pos (pow_pos k) (pow_pos k))

  below : r < m * 2 ^ k → ⊥
  below g = ⊎_elim even more (le-or-lt m (2 ^ 52))
    where
      even : m ≤ 2 ^ 52 → ⊥
      even l =
          let e : m * 2 ^ k ≡ 2 ^ (52 + k) = ap (λ (x : ℕ). x * 2 ^ k) (le_antisymm l first) ∙ sym (pow-add 2 52 k) in
          not-below-exact (m * 2 ^ k) N r (exact (m * 2 ^ k) N (52 + k) s e) g (near.0 g)

      more : 2 ^ 52 < m → ⊥
      more l =
          let c = m - 1 in
          let e : m ≡ c + 1 = omega arith in
          let under : r ≤ c * 2 ^ k =
          ⊎_elim (λ (h : r ≤ c * 2 ^ k). h)
          (λ (h : c * 2 ^ k < r). absurd (not-le_of_lt g (subst (λ (x : ℕ). x * 2 ^ k ≤ r) (sym e) (beyond c (omega arith) h)))) (le-or-lt r (c * 2 ^ k)) in
          not-below c (2 ^ s.power) (2 ^ k) N r (subst (λ (x : ℕ). 2 ^ s.power + 2 ^ k * 2 ^ k ≤ 2 * (x * (2 ^ k * 2 ^ k))) e unit)
          (subst (λ (x : ℕ). 2 * (x * 2 ^ k * (x * 2 ^ k)) ≤ 2 * N + 2 ^ s.power) e s.near.1) under
          (subst (λ (x : ℕ). 4 * N < square (r + x * 2 ^ k)) e (near.0 g))

  root-same : r ≡ m * 2 ^ k
  root-same =
      le_antisymm (⊎_elim (λ (g : r ≤ m * 2 ^ k). g) (λ (g : m * 2 ^ k < r). absurd (above g)) (le-or-lt r (m * 2 ^ k)))
      (⊎_elim (λ (g : m * 2 ^ k ≤ r). g) (λ (g : r < m * 2 ^ k). absurd (below g)) (le-or-lt (m * 2 ^ k) r))

-- where r is nearer to the root of N than a is, or is a, it is a
pub root-back : (a N r : ℕ) → Squared a N → Digits53 a → Digits53 r → Nearer N r a → (0 < a) × (r ≡ a)
root-back a N r s da d near =
    let big : 2 ^ 52 ≤ a = large a (2 ^ s.power) (pow_mono s.high) s.long in
    let lead = leading a da big in
    let m = lead.digits in
    let k = lead.zeros in (
      lt_of_lt_of_le (pow_pos 52) big,
      subst (λ (x : ℕ). Squared x N → Nearer N r x → r ≡ x) (sym lead.is) (λ t n. root-same m k N r lead.first lead.few t d n) s near,
    )
