-- Laws of a finite result: then so are the terms of a sum or a difference, and the factors of a product. Assumes nothing.
use mathlib.Core.Path.{◌≡◌, refl, sym, ◌∙◌}
use mathlib.Core.Bool.{Bool, true, false, true≢false, cond}
use lib.Dec.{eqb}
use lib.Ieee.{Float, nan, inf, fin, unlike, neg, add, sub, mul}
use Rattle.model.specs.Scalar.{◌⊕◌, ◌⊖◌, ◌⊗◌, is_finite}

-- ---- sums and differences

pub plus-l : (x y : Float) → is_finite (x ⊕ y) ≡ true → is_finite x ≡ true
unfolding add is_finite
plus-l nan y e = e
plus-l (inf s) nan e = e
plus-l (inf true) (inf true) e = e
plus-l (inf true) (inf false) e = e
plus-l (inf false) (inf true) e = e
plus-l (inf false) (inf false) e = e
plus-l (inf s) (fin t n d) e = e
plus-l (fin s m d) y e = refl

pub plus-r : (x y : Float) → is_finite (x ⊕ y) ≡ true → is_finite y ≡ true
unfolding add is_finite
plus-r nan nan e = e
plus-r (inf s) nan e = e
plus-r (fin s m d) nan e = e
plus-r nan (inf t) e = e
plus-r (inf true) (inf true) e = e
plus-r (inf true) (inf false) e = e
plus-r (inf false) (inf true) e = e
plus-r (inf false) (inf false) e = e
plus-r (fin s m d) (inf t) e = e
plus-r x (fin t n d) e = refl

less-r : (y : Float) → is_finite (neg y) ≡ true → is_finite y ≡ true
unfolding neg is_finite
less-r nan e = e
less-r (inf s) e = e
less-r (fin s m d) e = refl

pub finite-terms : (x y : Float) → is_finite (x ⊖ y) ≡ true → (is_finite x ≡ true) × (is_finite y ≡ true)
unfolding sub
finite-terms x y e = (plus-l x (neg y) e, less-r y (plus-r x (neg y) e))

-- ---- products

-- neither of two values is finite
neither : (b : Bool) (x y : Float) → is_finite x ≡ false → is_finite y ≡ false → is_finite (cond b x y) ≡ true → ⊥
neither true x y f g h = true≢false (sym h ∙ f)
neither false x y f g h = true≢false (sym h ∙ g)

pub finite-factors : (x y : Float) → is_finite (x ⊗ y) ≡ true → (is_finite x ≡ true) × (is_finite y ≡ true)
unfolding mul is_finite
finite-factors nan y h = absurd (true≢false (sym h))
finite-factors (inf s) nan h = absurd (true≢false (sym h))
finite-factors (inf s) (inf t) h = absurd (true≢false (sym h))
finite-factors (inf s) (fin t n d) h = absurd (neither (eqb n 0) nan (inf (unlike s t)) refl refl h)
finite-factors (fin s m e) nan h = absurd (true≢false (sym h))
finite-factors (fin s m e) (inf t) h = absurd (neither (eqb m 0) nan (inf (unlike s t)) refl refl h)
finite-factors (fin s m e) (fin t n d) h = (refl, refl)
