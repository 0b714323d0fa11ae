-- Laws of `first_not`, the scan for the first place at which a test does not hold: b is the test's answer at k, w what the whole scan finds.
-- Assumes nothing.
use Rattle.std.specs.Prelude.{Ok, Err}
use mathlib.Core.Path.{◌≡◌, refl, sym, ◌∙◌, ap}
use mathlib.Core.List.{List, [], ◌∷◌}
use mathlib.Core.Bool.{Bool, true, false, not}
use Prim.Native.Nat.{ℕ, suc, ◌+◌, ◌-◌, ◌≤◌, ◌<◌}
use native.Mathlib.Omega.{arith}
use borrow.Author.Tests.{not-true, not-false}
use lib.Ieee.{Float, nan}
use lib.ListN.{length, get_or}
use Rattle.std.specs.List.{position_from}
use Rattle.model.specs.Scalar.{is_finite}
use Rattle.model.specs.Matrix.{vec}
use Rattle.model.specs.Assembly.{first_not}
use Rattle.model.specs.declared.Refusal.{Refusal}
use Rattle.model.specs.Answer.{Check}
use Rattle.model.proofs.Cases.{test}
use Rattle.checks.specs.Finite.{finite_at, refused_at}

module _ (f : ℕ → Bool) (at : ℕ → Refusal) where
  pub first-none : (n : ℕ) → first_not f at (n - 0) 0 ≡ first_not f at n 0
  first-none n = let e : n - 0 ≡ n = omega arith in rw e

  pub first_step : (n k : ℕ) (b : Bool) (w : Check) → k < n → b ≡ f k → not b ≡ false → first_not f at (n - k) k ≡ w
      → first_not f at (n - (k + 1)) (k + 1) ≡ w
  unfolding first_not
  first_step n k b w h s t e =
      let m : n - k ≡ suc (n - (k + 1)) = omega arith in
      let y : f k ≡ true = sym s ∙ not-false b t in
      rw (m, y) at e

  -- x is what is refused at k
  pub first-bad : (n k : ℕ) (b : Bool) (w : Check) (x : Refusal) → k < n → b ≡ f k → not b ≡ true → first_not f at (n - k) k ≡ w → x ≡ at k → Err x ≡ w
  unfolding first_not
  first-bad n k b w x h s t e i =
      let m : n - k ≡ suc (n - (k + 1)) = omega arith in
      let y : f k ≡ false = sym s ∙ not-true b t in
      ap Err i ∙ (rw (m, y) at e)

  pub first-end : (n k : ℕ) (w : Check) → n ≤ k → first_not f at (n - k) k ≡ w → Ok tt ≡ w
  unfolding first_not
  first-end n k w h e = let m : n - k ≡ 0 = omega arith in rw m at e

-- ---- the first of a list's numbers that is not finite

numbers-from : (f : ℕ → Bool) (at : ℕ → Refusal) (xs : List Float) (k : ℕ) → ((i : ℕ) → i < length xs → f (k + i) ≡ is_finite (get_or xs i nan))
    → refused_at at (position_from (λ x. not (is_finite x)) k xs) ≡ first_not f at (length xs) k
unfolding first_not
numbers-from f at [] k h = refl
numbers-from f at (x ∷ xs) k h =
    let here : f k ≡ is_finite x = ap f (omega arith) ∙ h 0 (omega arith) in
    let later = numbers-from f at xs (k + 1) (λ i l. ap f (omega arith) ∙ h (suc i) (omega arith)) in
    test (is_finite x)
    (λ t. rw (here, t) later)
    (λ t. rw (here, t))

pub numbers-scan : (at : ℕ → Refusal) (xs : List Float)
    → refused_at at (position_from (λ x. not (is_finite x)) 0 xs) ≡ first_not (finite_at xs) at (length xs) 0
unfolding finite_at vec
numbers-scan at xs = numbers-from (λ k. is_finite (get_or xs k nan)) at xs 0 (λ i l. ap (λ (k : ℕ). is_finite (get_or xs k nan)) (omega arith))
