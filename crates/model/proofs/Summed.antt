-- Laws of `sum_from`: a sum in two parts, and the same sum of other terms. Assumes nothing.
use Prim.Native.Nat.{ℕ, zero, suc, ◌+◌, ◌<◌, ◌≤◌}
use mathlib.Core.Path.{◌≡◌, refl, ◌∙◌, ap}
use native.Mathlib.Omega.{arith}
use lib.Ieee.{Float}
use Rattle.model.specs.Scalar.{◌⊕◌}
use Rattle.model.specs.Matrix.{Row}
use Rattle.model.specs.Panel.{sum_from}

pub sum-append : (f : Row) (m n c : ℕ) (x : Float) → sum_from f c (m + n) x ≡ sum_from f (c + m) n (sum_from f c m x)
unfolding sum_from
sum-append f zero n c x =
    let a : 0 + n ≡ n = omega arith in
    let b : c + 0 ≡ c = omega arith in
    rw (a, b)
sum-append f (suc m) n c x =
    let a : suc m + n ≡ suc (m + n) = omega arith in
    let b : c + suc m ≡ c + 1 + m = omega arith in
    rw (a, b) (sum-append f m n (c + 1) (x ⊕ f c))

-- by another rule, from another place on
pub sum_same : (f g : Row) (n c e : ℕ) (x : Float) → ((k : ℕ) → k < n → f (c + k) ≡ g (e + k)) → sum_from f c n x ≡ sum_from g e n x
unfolding sum_from
sum_same f g zero c e x h = refl
sum_same f g (suc n) c e x h =
    let here : f c ≡ g e = ap f (omega arith) ∙ h 0 (omega arith) ∙ ap g (omega arith) in
    let later : (k : ℕ) → k < n → f (c + 1 + k) ≡ g (e + 1 + k) = λ k l. ap f (omega arith) ∙ h (suc k) (omega arith) ∙ ap g (omega arith) in
    ap (λ (y : Float). sum_from f (c + 1) n (x ⊕ y)) here ∙ sum_same f g n (c + 1) (e + 1) (x ⊕ g e) later

-- by another rule, at the same places
pub sum_alike : (f g : Row) (c n : ℕ) (x : Float) → ((k : ℕ) → c ≤ k → k < c + n → f k ≡ g k) → sum_from f c n x ≡ sum_from g c n x
sum_alike f g c n x h = sum_same f g n c c x (λ k l. h (c + k) (omega arith) (omega arith))
