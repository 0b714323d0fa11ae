-- Laws of the symmetric exchange: where its two places go, and that of a place with itself it is none. Assumes nothing.
use Prim.Native.Nat.{ℕ, ◌<◌, ◌≤◌, min, max}
use mathlib.Core.Path.{◌≡◌, refl, sym, ◌∙◌, fun_ext}
use mathlib.Core.Logic.{◌≢◌}
use native.Mathlib.Omega.{arith}
use native.Mathlib.Nat.{max-eq_left, max-eq_right, min-eq_left, min-eq_right}
use borrow.Author.Tests.{eq-eqb, ne_eqb, ltb-true, ltb-false, leb-true, leb-false}
use lib.Dec.{ltb, leb}
use Rattle.model.specs.Matrix.{Mat, exchanged, exchanged_place}
use Rattle.model.proofs.Cases.{test}
use Rattle.model.proofs.Exchanged.{place_same, exchanged-in, exchanged-up, exchanged-past}

-- ---- places

pub place-p : (p q : ℕ) → exchanged_place p q p ≡ q
place-p p q = rw (eq-eqb p p refl)

pub place-q : (p q : ℕ) → p < q → exchanged_place p q q ≡ p
place-q p q d = rw (ne_eqb q p (λ x. omega arith), eq-eqb q q refl)

pub place-no : (p q i : ℕ) → i ≢ p → i ≢ q → exchanged_place p q i ≡ i
place-no p q i a b = rw (ne_eqb i p a, ne_eqb i q b)

-- ---- the exchange at a place

-- M at the two places, the greater first
pub keep : (M : Mat) (x y : ℕ) → y ≤ x → M x y ≡ M (max x y) (min x y)
keep M x y h = rw (max-eq_left h, min-eq_right h)

pub turn : (M : Mat) (x y : ℕ) → x ≤ y → M y x ≡ M (max x y) (min x y)
turn M x y h = rw (max-eq_right h, min-eq_left h)

-- a matrix that agrees at each place of the triangle before the limit, and is as it was elsewhere
exchanged-is : (M : Mat) (p q lim : ℕ) (N : Mat) → ((i j : ℕ) → j ≤ i → i < lim → N i j ≡ exchanged p q lim M i j) → ((i j : ℕ) → i < j → N i j ≡ M i j)
    → ((i j : ℕ) → lim ≤ i → N i j ≡ M i j) → N ≡ exchanged p q lim M
exchanged-is M p q lim N inside up past =
    fun_ext λ i. fun_ext λ j.
    test (leb j i)
    (λ a. test (ltb i lim)
    (λ b. inside i j (leb-true j i a) (ltb-true i lim b))
    (λ b. let l = ltb-false i lim b in past i j l ∙ sym (exchanged-past p q lim M i j l)))
    (λ a. let l = leb-false j i a in up i j l ∙ sym (exchanged-up p q lim M i j l))

-- ---- the exchange whole

-- of a place with itself
pub exchanged_same : (p q lim : ℕ) (M : Mat) → p ≡ q → M ≡ exchanged p q lim M
exchanged_same p q lim M e =
    rw e (exchanged-is M q q lim M (λ i j h l. keep M i j h ∙ sym (exchanged-in q q lim M i j h l ∙ rw (place_same q i, place_same q j)))
    (λ i j h. refl) (λ i j h. refl))
