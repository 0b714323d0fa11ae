-- Laws of the square root's steps in whole numbers: the whole root by Heron's rule, 26 digits more by one division, the nearest root, an exponent
-- halved, a subnormal's digits moved up. Assumes nothing.
use mathlib.Core.Path.{◌≡◌, sym, ap, ◌∙◌, subst, subst⁻¹}
use mathlib.Core.Logic.{⊎_elim}
use mathlib.Core.Bool.{false}
use Prim.Native.Nat.{ℕ, suc, ◌+◌, ◌-◌, ◌*◌, ◌/◌, ◌%◌, ◌^◌, ◌≤◌, ◌<◌}
use native.Mathlib.Nat.{le_trans, le_of_eq, le_of_suc-le-suc, lt_of_lt_of_le, lt_of_le_of_lt, lt_of_not-le, not-le_of_lt, mul_assoc, mul-le-mul_left}
use native.Mathlib.Nat.{mul-le-mul_right, le_of_mul-le-mul_right, div-lt_iff_lt-mul, div-mul-le_self, div-add-mod', mod-lt, mod-eq_of_lt}
use native.Mathlib.Omega.{arith}
use lib.Dec.{lit≤}
use lib.Pow.{pow-add, pow_mono, shl_lt}
use lib.Count.{count_leading_zeros, leading_top}
use lib.Ieee.{binary64, units}
use Rattle.model.specs.Root.{square, round_root}
use Rattle.model.proofs.Root.{square_le, square-lt-back, le-or-lt, root-goes-up, root-stays}
use Rattle.square_root.specs.Steps.{heron_of, Close, Whole, Digits, NearRoot, HeronPre, LongPre, ExtendPre}

-- ---- Heron's rule

-- of two numbers, by which is the less
either_less : (P : ℕ → ℕ → Type 0) (a b : ℕ) → ((x e : ℕ) → P x (x + e)) → ((x e : ℕ) → P (x + e) x) → P a b
either_less P a b l g =
    ⊎_elim
    (λ (h : a ≤ b). subst (λ (y : ℕ). P a y) (omega arith) (l a (b - a)))
    (λ (h : b < a). subst (λ (y : ℕ). P y b) (omega arith) (g b (a - b)))
    (le-or-lt a b)

two_products : (a b : ℕ) → 2 * (a * b) ≤ a * a + b * b
two_products a b = either_less (λ x y. 2 * (x * y) ≤ x * x + y * y) a b (λ x e. omega arith) (λ x e. omega arith)

difference : (a d B : ℕ) → a ≤ d + B → d ≤ a + B → square (a + d) ≤ 4 * a * d + B * B
difference a d B =
    either_less (λ x y. x ≤ y + B → y ≤ x + B → square (x + y) ≤ 4 * x * y + B * B) a d
    (λ x e h k. let s : square e ≤ square B = square_le (omega arith) in omega arith)
    (λ x e h k. let s : square e ≤ square B = square_le (omega arith) in omega arith)

-- q is near the root of d: the squares differ by B at most
pub record Near (d B q : ℕ) : Type 0 where
  pub from : 2 ^ 26 ≤ q
  pub over : square q ≤ d + B
  pub under : d ≤ square q + B

-- what the rule gives is not below the whole root, and near it
pub record Nearer (d C p : ℕ) : Type 0 where
  pub from : 2 ^ 26 ≤ p
  pub over : square p ≤ d + C
  pub under : d < square (p + 1)

-- t is the quotient of d by q, and p half the sum of the two
module _ (d q t p : ℕ) (down : t * q ≤ d) (up : d < (t + 1) * q) (half : 2 * p ≤ q + t) (more : q + t ≤ 2 * p + 1) where
  not-under : d < square (p + 1)
  not-under =
      let b : (t + 1 + q) * q ≤ 2 * (p + 1) * q = mul-le-mul_right q (omega arith) in
      omega (arith, two_products (p + 1) q)

  -- (2 * p * q) ^ 2 is at most (q * q + d) ^ 2, which is 4 * q * q * d and the square of the difference of q * q and d
  squares : (B : ℕ) → Near d B q → 4 * square q * square p ≤ 4 * square q * d + B * B
  squares B near =
      let b : 2 * p * q ≤ (q + t) * q = mul-le-mul_right q half in
      let s : square (2 * p * q) ≤ square (q * q + d) = square_le (omega arith) in
      omega (arith, difference (q * q) d B near.over near.under)

  not-over : (B C : ℕ) → Near d B q → B * B ≤ C * (4 * square q) → square p ≤ d + C
  not-over B C near h =
      let s : square p * (4 * square q) ≤ (d + C) * (4 * square q) = omega (arith, squares B near) in
      le_of_mul-le-mul_right s (omega (arith, square_le near.from))

-- where B is at most one part of d in n + 1, the square of q is at least the other n
part-square : (n d B C q : ℕ) → Near d B q → (n + 1) * B ≤ d → B ≤ 4 * n * C → B * B ≤ C * (4 * square q)
part-square n d B C q near part few =
    let a : n * d ≤ (n + 1) * square q = omega (arith, mul-le-mul_left (n + 1) near.under) in
    let b : (n + 1) * B * B ≤ d * B = mul-le-mul_right B part in
    let c : B * d ≤ 4 * n * C * d = mul-le-mul_right d few in
    let e : 4 * C * (n * d) ≤ 4 * C * ((n + 1) * square q) = mul-le-mul_left (4 * C) a in
    let s : B * B * (n + 1) ≤ C * (4 * square q) * (n + 1) = omega arith in
    le_of_mul-le-mul_right s (omega arith)

heron-nearer : (n d B C q : ℕ) → LongPre d → Near d B q → (n + 1) * B ≤ d → B ≤ 4 * n * C → Nearer d C (heron_of d q)
heron-nearer n d B C q long near part few =
    let pos : 0 < q = omega (arith, near.from) in
    let down : d / q * q ≤ d = div-mul-le_self d q in
    let next : d / q < d / q + 1 = omega arith in
    let up : d < (d / q + 1) * q = (div-lt_iff_lt-mul pos).0 next in
    let half : 2 * heron_of d q ≤ q + d / q = omega arith in
    let more : q + d / q ≤ 2 * heron_of d q + 1 = omega arith in
    let u = not-under d q (d / q) (heron_of d q) down up half more in
    let o = not-over d q (d / q) (heron_of d q) down up half more B C near (part-square n d B C q near part few) in
    let from : 2 ^ 26 < heron_of d q + 1 = square-lt-back (2 ^ 26) (heron_of d q + 1) (lt_of_le_of_lt long.from u) in
    record { from = omega arith; over = o; under = u }

-- ---- the straight lines

-- the first line is u above its value at 2 ^ 52, the second above that at 2 ^ 53
line_first : (d u : ℕ) → (u + 53 * 2 ^ 19) * 2 ^ 33 ≤ d * 53 → d * 53 < (u + 53 * 2 ^ 19 + 1) * 2 ^ 33
    → u ≤ 53 * 2 ^ 19 → Close d (u + 129 * 2 ^ 19)
line_first d u lo hi few =
    let a : u * u ≤ 53 * 2 ^ 19 * u = mul-le-mul_right u few in
    record { from = omega arith; over = omega arith; under = omega (arith, two_products u (22 * 2 ^ 19)) }

line_second : (d u : ℕ) → (u + 75 * 2 ^ 19) * 2 ^ 34 ≤ d * 75 → d * 75 < (u + 75 * 2 ^ 19 + 1) * 2 ^ 34
    → u ≤ 75 * 2 ^ 19 → Close d (u + 365 * 2 ^ 18)
line_second d u lo hi few =
    let a : u * u ≤ 75 * 2 ^ 19 * u = mul-le-mul_right u few in
    record { from = omega arith; over = omega arith; under = omega (arith, two_products u (61 * 2 ^ 18)) }

pub first-octave : (d : ℕ) → LongPre d → d < 2 ^ 53 → Close d (d * 106 / 2 ^ 34 + 19 * 2 ^ 21)
first-octave d long h =
    let u = d * 106 / 2 ^ 34 - 53 * 2 ^ 19 in
    subst (λ (q : ℕ). Close d q) (omega arith) (line_first d u (omega arith) (omega arith) (omega arith))

pub second-octave : (d : ℕ) → LongPre d → 2 ^ 53 ≤ d → Close d (d * 75 / 2 ^ 34 + 215 * 2 ^ 18)
second-octave d long h =
    let u = d * 75 / 2 ^ 34 - 75 * 2 ^ 19 in
    subst (λ (q : ℕ). Close d q) (omega arith) (line_second d u (omega arith) (omega arith) (omega arith))

-- ---- the rule taken twice

close-near : (d l : ℕ) → Close d l → Near d (d / 40) l
close-near d l c = record { from = c.from; over = omega (arith, c.over); under = omega (arith, c.under) }

-- a step's number is near enough for the next
near-pre : (d B q : ℕ) → LongPre d → B ≤ 2 ^ 50 → Near d B q → HeronPre d q
near-pre d B q long h n = record { number = long.to; from = n.from; to = square-lt-back q (2 ^ 28) (omega arith) }

-- l is the line's number, q and p are those after the first and the second step
module _ (d l q : ℕ) (long : LongPre d) (close : Close d l) (first : q ≡ heron_of d l) where
  near_first : Near d (d / 6000) q
  near_first =
      let n : Nearer d (d / 6000) q =
      subst⁻¹ (λ (x : ℕ). Nearer d (d / 6000) x) first
      (heron-nearer 39 d (d / 40) (d / 6000) l long (close-near d l close) (omega arith) (omega arith)) in
      let few : q < 2 ^ 28 = square-lt-back q (2 ^ 28) (omega arith) in
      record { from = n.from; over = n.over; under = omega (arith, n.under) }

  pub second-pre : HeronPre d q
  second-pre = near-pre d (d / 6000) q long (omega arith) near_first

  pub heron-end : (p : ℕ) → p ≡ heron_of d q → Nearer d (2 ^ 27 - 1) p
  heron-end p second =
      subst⁻¹ (λ (x : ℕ). Nearer d (2 ^ 27 - 1) x) second
      (heron-nearer 5999 d (d / 6000) (2 ^ 27 - 1) q long near_first (omega arith) (omega arith))

-- ---- the whole root, from a number that is it or one more

pub whole-right : (d q : ℕ) → Nearer d (2 ^ 27 - 1) q → q * q ≤ d → Whole d q (d - q * q)
whole-right d q n h = record { whole = omega arith; left = omega (arith, n.under) }

pub less-square : (d q : ℕ) → Nearer d (2 ^ 27 - 1) q → (q - 1) * (q - 1) ≤ d
less-square d q n =
    let is : q ≡ q - 1 + 1 = omega (arith, n.from) in
    let s : q * q ≡ (q - 1 + 1) * (q - 1 + 1) = ap square is in
    omega (arith, n.over, n.from)

pub whole-less : (d q : ℕ) → Nearer d (2 ^ 27 - 1) q → d < q * q → Whole d (q - 1) (d - (q - 1) * (q - 1))
whole-less d q n h =
    let is : q ≡ q - 1 + 1 = omega (arith, n.from) in
    let s : q * q ≡ (q - 1 + 1) * (q - 1 + 1) = ap square is in
    let w = less-square d q n in
    record { whole = omega arith; left = omega arith }

-- ---- 26 digits more, by one division

root-between : (d q r : ℕ) → ExtendPre d q r → (2 ^ 26 ≤ q) × (q < 2 ^ 27)
root-between d q r p = (le_of_suc-le-suc (square-lt-back (2 ^ 26) (suc q) (omega arith)), square-lt-back q (2 ^ 27) (omega arith))

-- what the machine asks of the sums, products and differences on the way, u the quotient of r * 2 ^ 26 by 2 * q and v its remainder
pub record Bounds (q r u v : ℕ) : Type 0 where
  pub from : 2 ^ 26 ≤ q
  pub to : q < 2 ^ 27
  pub left : r ≤ 2 * q
  pub quotient : u ≤ 2 ^ 26
  pub remainder : v < q * 2
  pub squared : u * u ≤ 2 ^ 52
  pub reach : 2 ^ 52 ≤ q * 2 ^ 26 + u
  pub enough : u * u ≤ v * 2 ^ 26 + ((q * 2 ^ 26 + u) * 2 - 1)

module _ (d q r u v : ℕ) (p : ExtendPre d q r) (e : u * (q * 2) + v ≡ r * 2 ^ 26) (l : v < q * 2) where
  small-quotient : u ≤ 2 ^ 26
  small-quotient =
      let a : u * (q * 2) ≤ 2 ^ 26 * (q * 2) = omega (arith, p.root.left) in
      le_of_mul-le-mul_right a (omega (arith, root-between d q r p))

  bounds : Bounds q r u v
  bounds = omega (arith, root-between d q r p, small-quotient, mul-le-mul_right u small-quotient, p.root.left)

  small-root : (t : ℕ) → square t ≤ d * 2 ^ 52 → t < 2 ^ 53
  small-root t h = square-lt-back t (2 ^ 53) (omega arith)

  right : u * u ≤ v * 2 ^ 26 → Digits d (q * 2 ^ 26 + u) (v * 2 ^ 26 - u * u)
  right h =
      let w : square (q * 2 ^ 26 + u) + (v * 2 ^ 26 - u * u) ≡ d * 2 ^ 52 = omega (arith, p.root.whole) in
      record { whole = w; left = omega arith; small = small-root (q * 2 ^ 26 + u) (omega arith) }

  one_less : v * 2 ^ 26 < u * u → Digits d (q * 2 ^ 26 + u - 1) (v * 2 ^ 26 + ((q * 2 ^ 26 + u) * 2 - 1) - u * u)
  one_less h =
      let t = q * 2 ^ 26 + u - 1 in
      let reach = bounds.reach in
      let enough = bounds.enough in
      let is : q * 2 ^ 26 + u ≡ t + 1 = omega arith in
      let sq : square (q * 2 ^ 26 + u) ≡ square (t + 1) = ap square is in
      let w : square t + (v * 2 ^ 26 + ((q * 2 ^ 26 + u) * 2 - 1) - u * u) ≡ d * 2 ^ 52 = omega arith in
      record { whole = w; left = omega arith; small = small-root t (omega arith) }

module _ (d q r : ℕ) (p : ExtendPre d q r) where
  divided : r * 2 ^ 26 / (q * 2) * (q * 2) + r * 2 ^ 26 % (q * 2) ≡ r * 2 ^ 26
  divided = div-add-mod' (r * 2 ^ 26) (q * 2)

  remains : r * 2 ^ 26 % (q * 2) < q * 2
  remains = mod-lt (r * 2 ^ 26) (omega (arith, root-between d q r p))

  pub extend-right : r * 2 ^ 26 / (q * 2) * (r * 2 ^ 26 / (q * 2)) ≤ r * 2 ^ 26 % (q * 2) * 2 ^ 26
      → Digits d (q * 2 ^ 26 + r * 2 ^ 26 / (q * 2)) (r * 2 ^ 26 % (q * 2) * 2 ^ 26 - r * 2 ^ 26 / (q * 2) * (r * 2 ^ 26 / (q * 2)))
  extend-right = right d q r (r * 2 ^ 26 / (q * 2)) (r * 2 ^ 26 % (q * 2)) p divided remains

  pub extend-one-less : r * 2 ^ 26 % (q * 2) * 2 ^ 26 < r * 2 ^ 26 / (q * 2) * (r * 2 ^ 26 / (q * 2))
      → Digits d (q * 2 ^ 26 + r * 2 ^ 26 / (q * 2) - 1)
      (r * 2 ^ 26 % (q * 2) * 2 ^ 26 + ((q * 2 ^ 26 + r * 2 ^ 26 / (q * 2)) * 2 - 1) - r * 2 ^ 26 / (q * 2) * (r * 2 ^ 26 / (q * 2)))
  extend-one-less = one_less d q r (r * 2 ^ 26 / (q * 2)) (r * 2 ^ 26 % (q * 2)) p divided remains

-- ---- the nearest root

long : (d q r : ℕ) → LongPre d → Digits d q r → 2 ^ 52 ≤ q
long d q r h f = le_of_suc-le-suc (square-lt-back (2 ^ 52) (suc q) (omega arith))

pub near_up : {d q r : ℕ} → Digits d q r → LongPre d → q < r → NearRoot d (q + 1)
near_up {d} {q} {r} f h g =
    let lo = long d q r h f in
    record { from = omega arith; to = omega arith; rounds = λ k. root-goes-up (d * 2 ^ 52) q r k f.whole f.left lo f.small g }

pub near-stays : {d q r : ℕ} → Digits d q r → LongPre d → r ≤ q → NearRoot d q
near-stays {d} {q} {r} f h g =
    let lo = long d q r h f in
    record { from = lo; to = omega arith; rounds = λ k. root-stays (d * 2 ^ 52) q r k f.whole f.left lo f.small g }

-- ---- an exponent halved

pub halved-even : {m d n : ℕ} (e : ℕ) → NearRoot d n → e % 2 ≡ 0 → d ≡ m → round_root (m * 2 ^ (e + 52)) ≡ units binary64 false n (e / 2)
halved-even {m} {d} {n} e near z is =
    let h = e / 2 in
    ap round_root
    (ap (λ (k : ℕ). m * 2 ^ k) (omega arith)
    ∙ ap (λ (x : ℕ). m * x) (pow-add 2 52 (h + h) ∙ ap (λ (x : ℕ). 2 ^ 52 * x) (pow-add 2 h h))
    ∙ sym (mul_assoc m (2 ^ 52) (square (2 ^ h)))
    ∙ ap (λ (x : ℕ). x * 2 ^ 52 * square (2 ^ h)) (sym is))
    ∙ near.rounds h

pub halved-odd : {d n : ℕ} (m e : ℕ) → NearRoot d n → (e % 2 ≡ 0 → ⊥) → d ≡ m * 2 → round_root (m * 2 ^ (e + 52)) ≡ units binary64 false n (e / 2)
halved-odd {d} {n} m e near z is =
    let h = e / 2 in
    ap round_root
    (ap (λ (k : ℕ). m * 2 ^ k) (omega arith)
    ∙ ap (λ (x : ℕ). m * x) (pow-add 2 53 (h + h) ∙ ap (λ (x : ℕ). 2 ^ 53 * x) (pow-add 2 h h))
    ∙ omega arith
    ∙ ap (λ (x : ℕ). x * 2 ^ 52 * square (2 ^ h)) (sym is))
    ∙ near.rounds h

-- ---- a number below 2 ^ 52, moved up until it has 53 digits

pub record Moved (t z s : ℕ) : Type 0 where
  pub some : 11 ≤ z
  pub few : s ≤ 52
  pub from : 2 ^ 52 ≤ t * 2 ^ s % 2 ^ 64
  pub to : t * 2 ^ s % 2 ^ 64 < 2 ^ 53
  pub root : t * 2 ^ s % 2 ^ 64 * 2 ^ (1022 - s + 52) ≡ t * 2 ^ 1074

pub moved : (t z : ℕ) → z ≡ count_leading_zeros 64 t → 0 < t → t < 2 ^ 52 → Moved t z (z - 11)
moved t z e a b =
    let top = leading_top 64 t a (lt_of_lt_of_le b (lit≤ tt)) in
    let j = top.0 in
    let s = z - 11 in
    let short : j < 52 = lt_of_not-le (λ (g : 52 ≤ j). not-le_of_lt b (le_trans (pow_mono g) top.2)) in
    let count = top.1 in
    let sum : j + s ≡ 52 = omega arith in
    let more : suc j + s ≡ 53 = omega arith in
    let all : s + (1022 - s + 52) ≡ 1074 = omega arith in
    let lo : 2 ^ 52 ≤ t * 2 ^ s = le_trans (le_of_eq (ap (λ (k : ℕ). 2 ^ k) (sym sum) ∙ pow-add 2 j s)) (mul-le-mul_right (2 ^ s) top.2) in
    let up : t * 2 ^ s < 2 ^ 53 = subst (λ (k : ℕ). t * 2 ^ s < 2 ^ k) more (shl_lt (suc j) s top.3) in
    let whole : t * 2 ^ s % 2 ^ 64 ≡ t * 2 ^ s = mod-eq_of_lt (lt_of_lt_of_le up (lit≤ tt)) in
    record {
      some = omega arith;
      few = omega arith;
      from = omega arith;
      to = omega arith;
      root =
          ap (λ (x : ℕ). x * 2 ^ (1022 - s + 52)) whole
          ∙ mul_assoc t (2 ^ s) (2 ^ (1022 - s + 52))
          ∙ ap (λ (x : ℕ). t * x) (sym (pow-add 2 s (1022 - s + 52)) ∙ ap (λ (k : ℕ). 2 ^ k) all);
    }
