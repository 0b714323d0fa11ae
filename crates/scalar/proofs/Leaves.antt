-- Laws of the leaves' tests and of a magnitude by its bits, on plain values. Assumes nothing.
use mathlib.Core.Path.{◌≡◌, refl, sym, ap, ◌∙◌, subst}
use mathlib.Core.Bool.{Bool, true, false, not, true≢false}
use Prim.Native.Nat.{ℕ}
use lib.Dec.{T}
use lib.Ieee.{Float, nan, inf, fin, binary64, fits, is_nan, nan_bits, lt, ne, div, of_bits, to_bits}
use lib.Ieee.Bits.{of_bits-to_bits, nan_bits_is}
use lib.Ieee.Compare.{differs_from_itself}
use Rattle.model.proofs.Fields.{number-cleared}
use Rattle.model.specs.Scalar.{zero_f, is_finite, magnitude_of, magnitude_bits_of}

-- ---- a not-a-number differs from itself, and nothing else does

pub nan-made : div binary64 zero_f zero_f ≡ nan
unfolding div of_bits
nan-made = refl

pub is-nan : (x : Float) → ne x x ≡ true → x ≡ nan
is-nan x e = differs_from_itself x (subst T (sym e) tt)

pub is_nan-is : (x : Float) → is_nan x ≡ ne x x
unfolding is_nan ne
is_nan-is nan = refl
is_nan-is (inf true) = refl
is_nan-is (inf false) = refl
is_nan-is (fin s m e) = sym (no-differ (fin s m e) refl)
  where
    no-differ : (x : Float) → is_nan x ≡ false → ne x x ≡ false
    no-differ x h = go (ne x x) (λ t. differs_from_itself x t) h
      where
        go : (b : Bool) → (T b → x ≡ nan) → is_nan x ≡ false → b ≡ false
        go true k e = absurd (true≢false (ap is_nan (sym (k tt)) ∙ e))
        go false k e = refl

pub no_nan : (x : Float) → ne x x ≡ false → T (not (is_nan x))
no_nan x e = subst (λ (b : Bool). T (not b)) (sym (is_nan-is x ∙ e)) tt

-- ---- between the infinities

pub below-infinity : (x : Float) → lt x (inf false) ≡ true → lt (inf true) x ≡ is_finite x
unfolding lt is_finite
below-infinity nan h = refl
below-infinity (inf true) h = refl
below-infinity (inf false) h = cc
below-infinity (fin s m e) h = refl

pub not-below-infinity : (x : Float) → lt x (inf false) ≡ false → false ≡ is_finite x
unfolding lt is_finite
not-below-infinity nan h = refl
not-below-infinity (inf s) h = refl
not-below-infinity (fin s m e) h = cc

-- ---- a magnitude by its bits

magnitude-is_nan : (x : Float) → is_nan (magnitude_of x) ≡ is_nan x
unfolding is_nan magnitude_of
magnitude-is_nan nan = refl
magnitude-is_nan (inf s) = refl
magnitude-is_nan (fin s m e) = refl

module _ (x : Float) (bits : ℕ) (f : T (fits binary64 x)) (e : bits ≡ magnitude_bits_of (to_bits binary64 x)) where
  pub magnitude-by-bits : of_bits binary64 bits ≡ magnitude_of x
  magnitude-by-bits = ap (of_bits binary64) e ∙ number-cleared (to_bits binary64 x) ∙ ap magnitude_of (of_bits-to_bits binary64 x f)

  pub magnitude-no-nan : T (not (is_nan x)) → T (not (nan_bits binary64 bits))
  magnitude-no-nan t =
      subst (λ (n : Bool). T (not n)) (sym (nan_bits_is binary64 bits ∙ ap is_nan magnitude-by-bits ∙ magnitude-is_nan x)) t

pub magnitude-of-nan : (x : Float) → ne x x ≡ true → x ≡ magnitude_of x
unfolding magnitude_of
magnitude-of-nan x e = rw (is-nan x e)
