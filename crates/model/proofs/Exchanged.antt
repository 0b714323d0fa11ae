-- Laws of the symmetric exchange: where a place goes, and what stands in the triangle, above it, at the limit and past it. Assumes nothing.
use Prim.Native.Nat.{ℕ, ◌<◌, ◌≤◌, min, max}
use mathlib.Core.Path.{◌≡◌, refl, sym, ◌∙◌, ap, fun_ext}
use native.Mathlib.Omega.{arith}
use borrow.Author.Tests.{lt-ltb, le-ltb, le-leb, lt-leb, eq-eqb, ne_eqb, eqb-true}
use lib.Dec.{leb, eqb}
use Rattle.model.specs.Matrix.{Mat, exchanged, exchanged_place, swapped}
use Rattle.model.proofs.Cases.{test, no}

-- ---- places

-- an exchange with itself is none
pub place_same : (p i : ℕ) → exchanged_place p p i ≡ i
place_same p i = test (eqb i p) (λ e. rw e (sym (eqb-true i p e))) (λ e. rw e)

pub swapped_same : (f : ℕ → ℕ) (p q : ℕ) → p ≡ q → f ≡ swapped f p q
unfolding swapped
swapped_same f p q e = rw (← e) (fun_ext λ i. ap f (sym (place_same p i)))

-- done twice it is none
pub place_twice : (p q i : ℕ) → exchanged_place p q (exchanged_place p q i) ≡ i
place_twice p q i =
    test (eqb i p)
    (λ e. rw e (test (eqb q p) (λ f. rw f (eqb-true q p f ∙ sym (eqb-true i p e))) (λ f. rw (f, eq-eqb q q refl) (sym (eqb-true i p e)))))
    (λ e. rw e (test (eqb i q) (λ f. rw (f, eq-eqb p p refl) (sym (eqb-true i q f))) (λ f. rw (f, e, f))))

-- below a limit that both are below, a place stays below it
pub place-under : (p q lim i : ℕ) → p < lim → q < lim → i < lim → exchanged_place p q i < lim
place-under p q lim i hp hq hi = test (eqb i p) (λ e. rw e hq) (λ e. rw e (test (eqb i q) (λ f. rw f hp) (λ f. rw f hi)))

-- at the limit and past it nothing moves
pub place-past : (p q lim i : ℕ) → p < lim → q < lim → lim ≤ i → exchanged_place p q i ≡ i
place-past p q lim i hp hq h = rw (ne_eqb i p (λ x. omega arith), ne_eqb i q (λ x. omega arith))

-- ---- the matrix

pub exchanged-in : (p q lim : ℕ) (a : Mat) (i j : ℕ) → j ≤ i → i < lim
    → exchanged p q lim a i j ≡ a (max (exchanged_place p q i) (exchanged_place p q j)) (min (exchanged_place p q i) (exchanged_place p q j))
unfolding exchanged
exchanged-in p q lim a i j h l = rw (le-leb j i h, lt-ltb i lim l)

pub exchanged-up : (p q lim : ℕ) (a : Mat) (i j : ℕ) → i < j → exchanged p q lim a i j ≡ a i j
unfolding exchanged
exchanged-up p q lim a i j h = rw (lt-leb j i h)

pub exchanged-past : (p q lim : ℕ) (a : Mat) (i j : ℕ) → lim ≤ i → exchanged p q lim a i j ≡ a i j
unfolding exchanged
exchanged-past p q lim a i j h = rw (le-ltb i lim h, no (leb j i))
