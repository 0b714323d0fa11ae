-- Laws of a test at every place: where it holds, one place more, by another rule, what it says of one place; and of a scan that finds none. Assumes nothing.
use Rattle.std.specs.Prelude.{Ok, Err}
use Prim.Native.Nat.{ℕ, zero, suc, ◌+◌, ◌≤◌, ◌<◌}
use mathlib.Core.Path.{◌≡◌, refl, ◌∙◌, ap}
use mathlib.Core.Bool.{Bool, true, false, ◌&&◌}
use native.Mathlib.Nat.{not-suc-le-zero, le_of_suc-le-suc}
use native.Mathlib.Omega.{arith}
use borrow.Author.Tests.{eqb-true, eqb-false}
use lib.Dec.{eqb}
use Rattle.model.specs.Factor.{every_from}
use Rattle.model.specs.Assembly.{first_not}
use Rattle.model.specs.declared.Refusal.{Refusal}
use Rattle.model.proofs.Cases.{test, and_left, and_right}

and-true : (b : Bool) → b && true ≡ b
and-true true = refl
and-true false = refl

and_assoc : (a b c : Bool) → a && (b && c) ≡ (a && b) && c
and_assoc true b c = refl
and_assoc false b c = refl

pub every-last : (f : ℕ → Bool) (n i : ℕ) → every_from f (n + 1) i ≡ every_from f n i && f (i + n)
unfolding every_from
every-last f zero i = and-true (f i) ∙ ap f (omega arith)
every-last f (suc n) i =
    let e : suc n + 1 ≡ suc (n + 1) = omega arith in
    rw e (ap (λ (b : Bool). f i && b) (every-last f n (i + 1) ∙ ap (λ (k : ℕ). every_from f n (i + 1) && f k) (omega arith))
    ∙ and_assoc (f i) (every_from f n (i + 1)) (f (i + suc n)))

-- by another rule, from another place on
pub every-same : (f g : ℕ → Bool) (n i j : ℕ) → ((k : ℕ) → k < n → f (i + k) ≡ g (j + k)) → every_from f n i ≡ every_from g n j
unfolding every_from
every-same f g zero i j h = refl
every-same f g (suc n) i j h =
    let here : f i ≡ g j = ap f (omega arith) ∙ h 0 (omega arith) ∙ ap g (omega arith) in
    let later : (k : ℕ) → k < n → f (i + 1 + k) ≡ g (j + 1 + k) = λ k l. ap f (omega arith) ∙ h (suc k) (omega arith) ∙ ap g (omega arith) in
    rw (here, every-same f g n (i + 1) (j + 1) later)

pub every-at : (f : ℕ → Bool) (n i k : ℕ) → every_from f n i ≡ true → k < n → f (i + k) ≡ true
unfolding every_from
every-at f zero i k e h = absurd (not-suc-le-zero h)
every-at f (suc n) i zero e h = ap f (omega arith) ∙ and_left (f i) _ e
every-at f (suc n) i (suc k) e h = ap f (omega arith) ∙ every-at f n (i + 1) k (and_right (f i) _ e) (le_of_suc-le-suc h)

-- a test that holds at every place
pub every_of : (f : ℕ → Bool) (n i : ℕ) → ((k : ℕ) → k < n → f (i + k) ≡ true) → every_from f n i ≡ true
unfolding every_from
every_of f zero i h = refl
every_of f (suc n) i h =
    let here : f i ≡ true = ap f (omega arith) ∙ h 0 (omega arith) in
    rw here (every_of f n (i + 1) (λ k l. ap f (omega arith) ∙ h (suc k) (omega arith)))

-- ---- a scan for the first place at which a test does not hold, which finds none

from_all : (f : ℕ → Bool) (at : ℕ → Refusal) (m k : ℕ) → first_not f at m k ≡ Ok tt → (i : ℕ) → k ≤ i → i < k + m → f i ≡ true
unfolding first_not
from_all f at zero k e i l h = absurd (omega arith)
from_all f at (suc m) k e i l h =
    test (f k)
    (λ s. test (eqb i k) (λ q. rw (eqb-true i k q) s) (λ q. from_all f at m (k + 1) (rw s at e) i (omega (arith, eqb-false i k q)) (omega arith)))
    (λ s. absurd (let z : Err (at k) ≡ Ok tt = rw s at e in let w : ◌≡◌ {A = ℕ} 0 1 = cc in omega arith))

-- the test holds at each of the n places
pub first-all : (f : ℕ → Bool) (at : ℕ → Refusal) (n k : ℕ) → first_not f at n 0 ≡ Ok tt → k < n → f k ≡ true
first-all f at n k e h = from_all f at n 0 e k (omega arith) (omega arith)
