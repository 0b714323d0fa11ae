-- Laws of zeros in rounded arithmetic: a finite number times a zero is a zero; a number less a zero is that number, and what is worked out of two numbers that
-- are the same is the same, each time but for the sign of a zero. Assumes nothing.
use mathlib.Core.Path.{◌≡◌, refl, sym, ◌∙◌, ap, subst}
use mathlib.Core.Logic.{◌⊎◌, inl, inr}
use mathlib.Core.Bool.{Bool, true, false, true≢false, not, ◌||◌, beq}
use Prim.Native.Nat.{ℕ, zero, suc, ◌*◌, ◌^◌, ◌<◌}
use native.Mathlib.Nat.{zero-lt-suc, zero-mul, mul-zero, mul-pos, mul_assoc, mul_left_comm, mul_comm}
use native.Mathlib.Omega.{arith}
use borrow.Author.Tests.{eqb-true, eq-eqb, lt-ltb, le-ltb}
use lib.Dec.{T, eqb}
use lib.IntN.{ℤ}
use lib.Ieee.{Float, nan, inf, fin, binary64, unlike, up, down, round, sum, neg, add, sub, mul, eq, fits, of_bits}
use lib.Ieee.Exact.{HasValue, round_exact}
use lib.Ieee.Fits.{up_pos, down_pos}
use lib.Ieee.Scale.{round_same}
use Rattle.model.specs.Scalar.{◌⊖◌, ◌⊗◌, zero_f, is_finite}
use Rattle.std.proofs.Math.Bool.{or-true}
use Rattle.model.proofs.Cases.{and_left}
use Rattle.model.proofs.Finite.{finite-factors}
use Rattle.model.proofs.Worth.{round-own}

-- ---- zeros

-- a zero of either sign
abbrev pub Zero : Float → Type 0
Zero nan = ⊥
Zero (inf s) = ⊥
Zero (fin s m e) = m ≡ 0

-- the same but for the sign of a zero
abbrev pub SameButSign : Float → Float → Type 0
SameButSign x y = (x ≡ y) ⊎ (Zero x × Zero y)

no-digits : (m u c a d : ℕ) → 0 < u → 0 < c → a ≡ 0 → m * u * c ≡ a * d → m ≡ 0
no-digits zero u c a d U C z h = refl
no-digits (suc m) u c a d U C z h = absurd (omega (arith, mul-pos (mul-pos (zero-lt-suc m) U) C, rw z at h, zero-mul d))

-- a number that is worth nothing is a zero
worth-nothing : (x : Float) (s : Bool) (a c : ℕ) → 0 < c → a ≡ 0 → HasValue x s a c → Zero x
worth-nothing nan s a c C z h = h
worth-nothing (inf t) s a c C z h = h
worth-nothing (fin t m e) s a c C z h = no-digits m (up e) c a (down e) (up_pos e) C z h.1

round-nothing : (s : Bool) (a c : ℕ) → 0 < c → a ≡ 0 → Zero (round binary64 s a c)
round-nothing s a c C z =
    worth-nothing (round binary64 s a c) s a c C z
    (round_exact binary64 s a c 0 0 C (omega arith) (omega arith) (ap (λ (x : ℕ). x * 2 ^ 1074) z ∙ zero-mul (2 ^ 1074) ∙ sym (zero-mul c)))

-- ---- products

-- two factors, one of them without digits
product-nothing : (s t : Bool) (m n : ℕ) (e d : ℤ) → m * up e * (n * up d) ≡ 0 → Zero (fin s m e ⊗ fin t n d)
unfolding mul
product-nothing s t m n e d z = round-nothing (unlike s t) (m * up e * (n * up d)) (down e * down d) (mul-pos (down_pos e) (down_pos d)) z

pub zero-times : (x y : Float) → Zero x → is_finite y ≡ true → Zero (x ⊗ y)
unfolding is_finite
zero-times nan y z h = absurd z
zero-times (inf s) y z h = absurd z
zero-times (fin s m e) nan z h = absurd (true≢false (sym h))
zero-times (fin s m e) (inf t) z h = absurd (true≢false (sym h))
zero-times (fin s m e) (fin t n d) z h = product-nothing s t m n e d (rw (z, zero-mul (up e)) (zero-mul (n * up d)))

times-zero : (x y : Float) → Zero y → is_finite x ≡ true → Zero (x ⊗ y)
unfolding is_finite
times-zero x nan z h = absurd z
times-zero x (inf t) z h = absurd z
times-zero nan (fin t n d) z h = absurd (true≢false (sym h))
times-zero (inf s) (fin t n d) z h = absurd (true≢false (sym h))
times-zero (fin s m e) (fin t n d) z h = product-nothing s t m n e d (rw (z, zero-mul (up d)) (mul-zero (m * up e)))

-- ---- a number less a zero, and a zero less a number

nothing : (m u d : ℕ) → m ≡ 0 → m * u * d ≡ 0
nothing m u d z = rw z (ap (λ (x : ℕ). x * d) (zero-mul u) ∙ zero-mul d)

-- ±a / c less or more nothing, nothing less or more ±b / c, and nothing of both
sum-less-nothing : (s t : Bool) (a c : ℕ) → 0 < a → sum binary64 s a t 0 c ≡ round binary64 s a c
unfolding sum
sum-less-nothing true true a c h = ap (λ (x : ℕ). round binary64 true x c) (omega arith)
sum-less-nothing false false a c h = ap (λ (x : ℕ). round binary64 false x c) (omega arith)
sum-less-nothing true false a c h = rw (le-ltb a 0 (omega arith), lt-ltb 0 a h) (ap (λ (x : ℕ). round binary64 true x c) (omega arith))
sum-less-nothing false true a c h = rw (le-ltb a 0 (omega arith)) (ap (λ (x : ℕ). round binary64 false x c) (omega arith))

sum-nothing-less : (s t : Bool) (b c : ℕ) → 0 < b → sum binary64 s 0 t b c ≡ round binary64 t b c
unfolding sum
sum-nothing-less true true b c h = ap (λ (x : ℕ). round binary64 true x c) (omega arith)
sum-nothing-less false false b c h = ap (λ (x : ℕ). round binary64 false x c) (omega arith)
sum-nothing-less true false b c h = rw (lt-ltb 0 b h) (ap (λ (x : ℕ). round binary64 false x c) (omega arith))
sum-nothing-less false true b c h = rw (lt-ltb 0 b h) (ap (λ (x : ℕ). round binary64 true x c) (omega arith))

sum-of-nothing : (s t : Bool) (c : ℕ) → 0 < c → Zero (sum binary64 s 0 t 0 c)
unfolding sum
sum-of-nothing true true c C = round-nothing true 0 c C refl
sum-of-nothing false false c C = round-nothing false 0 c C refl
sum-of-nothing true false c C = round-nothing false 0 c C refl
sum-of-nothing false true c C = round-nothing false 0 c C refl

module _ (s t : Bool) (m n : ℕ) (e d : ℤ) where
  over : 0 < down e * down d
  over = mul-pos (down_pos e) (down_pos d)

  zeros-apart : m ≡ 0 → n ≡ 0 → Zero (fin s m e ⊖ fin t n d)
  unfolding sub neg add
  zeros-apart z w = rw (nothing m (up e) (down d) z, nothing n (up d) (down e) w) (sum-of-nothing s (not t) (down e * down d) over)

  number-less : 0 < m → n ≡ 0 → fin s m e ⊖ fin t n d ≡ round binary64 s (m * up e) (down e)
  unfolding sub neg add
  number-less h z =
      rw (nothing n (up d) (down e) z)
      (sum-less-nothing s (not t) (m * up e * down d) (down e * down d) (mul-pos (mul-pos h (up_pos e)) (down_pos d))
      ∙ round_same binary64 s (m * up e * down d) (down e * down d) (m * up e) (down e) over (down_pos e) (simp (mul_assoc, mul_comm, mul_left_comm)))

  less-number : m ≡ 0 → 0 < n → fin s m e ⊖ fin t n d ≡ round binary64 (not t) (n * up d) (down d)
  unfolding sub neg add
  less-number z h =
      rw (nothing m (up e) (down d) z)
      (sum-nothing-less s (not t) (n * up d * down e) (down e * down d) (mul-pos (mul-pos h (up_pos d)) (down_pos e))
      ∙ round_same binary64 (not t) (n * up d * down e) (down e * down d) (n * up d) (down d) over (down_pos d) (simp (mul_assoc, mul_comm, mul_left_comm)))

pub less-zero : (x z : Float) → T (fits binary64 x) → Zero z → SameButSign x (x ⊖ z)
unfolding sub neg add
less-zero x nan f h = absurd h
less-zero x (inf t) f h = absurd h
less-zero nan (fin t n d) f h = inl refl
less-zero (inf s) (fin t n d) f h = inl refl
less-zero (fin s zero e) (fin t n d) f h = inr (refl, zeros-apart s t 0 n e d refl h)
less-zero (fin s (suc m) e) (fin t n d) f h = inl (sym (number-less s t (suc m) n e d (zero-lt-suc m) h ∙ round-own s m e f))

zero-less : (p q x : Float) → Zero p → Zero q → SameButSign (p ⊖ x) (q ⊖ x)
unfolding sub neg add
zero-less nan q x g h = absurd g
zero-less (inf s) q x g h = absurd g
zero-less (fin s m e) nan x g h = absurd h
zero-less (fin s m e) (inf u) x g h = absurd h
zero-less (fin s m e) (fin u n i) nan g h = inl refl
zero-less (fin s m e) (fin u n i) (inf t) g h = inl refl
zero-less (fin s m e) (fin u n i) (fin t zero d) g h = inr (zeros-apart s t m 0 e d g refl, zeros-apart u t n 0 i d h refl)
zero-less (fin s m e) (fin u n i) (fin t (suc k) d) g h =
    inl (less-number s t m (suc k) e d g (zero-lt-suc k) ∙ sym (less-number u t n (suc k) i d h (zero-lt-suc k)))

-- ---- numbers that are the same but for the sign of a zero

same-back : (x y : Float) → SameButSign x y → SameButSign y x
same-back x y (inl e) = inl (sym e)
same-back x y (inr w) = inr (w.1, w.0)

pub same-on : (x y z : Float) → SameButSign x y → SameButSign y z → SameButSign x z
same-on x y z (inl e) g = subst (λ (v : Float). SameButSign v z) (sym e) g
same-on x y z (inr w) (inl e) = subst (λ (v : Float). SameButSign x v) e (inr w)
same-on x y z (inr w) (inr v) = inr (w.0, v.1)

zero-finite : (x : Float) → Zero x → is_finite x ≡ true
unfolding is_finite
zero-finite nan z = absurd z
zero-finite (inf s) z = absurd z
zero-finite (fin s m e) z = refl

pub same-finite : (x y : Float) → SameButSign x y → is_finite x ≡ true → is_finite y ≡ true
same-finite x y (inl e) h = ap is_finite (sym e) ∙ h
same-finite x y (inr w) h = zero-finite y w.1

pub times-same : (x y r : Float) → SameButSign x y → is_finite (x ⊗ r) ≡ true → SameButSign (x ⊗ r) (y ⊗ r)
times-same x y r (inl e) h = inl (ap (λ (v : Float). v ⊗ r) e)
times-same x y r (inr w) h = let g = (finite-factors x r h).1 in inr (zero-times x r w.0 g, zero-times y r w.1 g)

pub same-times : (r x y : Float) → SameButSign x y → is_finite (r ⊗ x) ≡ true → SameButSign (r ⊗ x) (r ⊗ y)
same-times r x y (inl e) h = inl (ap (λ (v : Float). r ⊗ v) e)
same-times r x y (inr w) h = let g = (finite-factors r x h).0 in inr (times-zero r x w.0 g, times-zero r y w.1 g)

pub less-same : (x y v w : Float) → T (fits binary64 x) → T (fits binary64 y) → SameButSign x y → SameButSign v w → SameButSign (x ⊖ v) (y ⊖ w)
less-same x y v w f g (inl p) (inl q) = inl (ap (λ (a : Float). a ⊖ v) p ∙ ap (λ (a : Float). y ⊖ a) q)
less-same x y v w f g (inr z) (inl q) = same-on (x ⊖ v) (y ⊖ v) (y ⊖ w) (zero-less x y v z.0 z.1) (inl (ap (λ (a : Float). y ⊖ a) q))
less-same x y v w f g p (inr z) =
    same-on (x ⊖ v) x (y ⊖ w) (same-back x (x ⊖ v) (less-zero x v f z.0)) (same-on x y (y ⊖ w) p (less-zero y w g z.1))

-- ---- as `==` has it

pub zero-is : (x : Float) → eq x zero_f ≡ true → Zero x
unfolding eq of_bits
zero-is nan h = absurd (true≢false (sym h))
zero-is (inf s) h = absurd (true≢false (sym h))
zero-is (fin s m e) h = no-digits m (up e) 1 0 (down e) (up_pos e) (omega arith) refl (eqb-true _ _ (and_left _ _ h))

equal-itself : (x : Float) → is_finite x ≡ true → eq x x ≡ true
unfolding eq is_finite
equal-itself nan h = absurd (true≢false (sym h))
equal-itself (inf s) h = absurd (true≢false (sym h))
equal-itself (fin s m e) h = rw (eq-eqb (m * up e * down e) (m * up e * down e) refl) (same s (eqb (m * up e * down e) 0))
  where
    same : (s b : Bool) → beq s s || b ≡ true
    same true b = refl
    same false b = refl

zeros-equal : (x y : Float) → Zero x → Zero y → eq x y ≡ true
unfolding eq
zeros-equal nan y g h = absurd g
zeros-equal (inf s) y g h = absurd g
zeros-equal (fin s m e) nan g h = absurd h
zeros-equal (fin s m e) (inf t) g h = absurd h
zeros-equal (fin s m e) (fin t n d) g h = rw (nothing m (up e) (down d) g, nothing n (up d) (down e) h) (or-true (beq s t))

pub same-equal : (x y : Float) → SameButSign x y → is_finite x ≡ true → eq y x ≡ true
same-equal x y (inl e) h = rw (sym e) (equal-itself x h)
same-equal x y (inr w) h = zeros-equal y x w.1 w.0
