-- Laws of a walk up the columns: how many turns are allowed does not matter once there are enough, what a step leaves is gone on from, a refusal stops it,
-- and past the last column it has ended. `up` says of a step that it goes up. Assumes nothing.
use Rattle.std.specs.Prelude.{Result, Ok, Err}
use mathlib.Core.Path.{◌≡◌, refl, sym, ◌∙◌}
use Prim.Native.Nat.{ℕ, zero, suc, ◌+◌, ◌-◌, ◌≤◌, ◌<◌}
use native.Mathlib.Omega.{arith}
use borrow.Author.Tests.{lt-ltb, le-ltb, ltb-true, ltb-false}
use lib.Dec.{ltb}
use Rattle.model.specs.Lapack.{goes, walk}
use Rattle.model.specs.declared.Refusal.{Refusal}
use Rattle.model.proofs.Cases.{test}

-- what two acceptances accept with
pub same-ok : {S : Type 0} (x y : S) → ◌≡◌ {A = Result S Refusal} (Ok x) (Ok y) → x ≡ y
same-ok x y e = cc

module _ {S : Type 0} (n : ℕ) (step : ℕ → S → Result (ℕ × S) Refusal) where
  -- one turn
  pub walk-turn : (m k : ℕ) (s : S) → k < n → walk n step (suc m) k s ≡ goes (step k s) (walk n step m)
  unfolding walk
  walk-turn m k s h = rw (lt-ltb k n h) refl

  pub walk-over : (m k : ℕ) (s : S) → n ≤ k → walk n step m k s ≡ Ok s
  unfolding walk
  walk-over zero k s h = refl
  walk-over (suc m) k s h = rw (le-ltb k n h) refl

  module _ (up : (k l : ℕ) (s t : S) → step k s ≡ Ok (l, t) → k < l) where
    pub walk-fuel : (m o k : ℕ) (s : S) → n - k ≤ m → n - k ≤ o → walk n step m k s ≡ walk n step o k s
    unfolding walk goes
    walk-fuel zero o k s h g = sym (walk-over o k s (omega arith))
    walk-fuel (suc m) zero k s h g = walk-over (suc m) k s (omega arith)
    walk-fuel (suc m) (suc o) k s h g =
        test (ltb k n)
        (λ t. walk-turn m k s (ltb-true k n t) ∙ by-step (ltb-true k n t) (step k s) refl (λ l u b. walk-fuel m o l u (omega arith) (omega arith))
        ∙ sym (walk-turn o k s (ltb-true k n t)))
        (λ t. walk-over (suc m) k s (ltb-false k n t) ∙ sym (walk-over (suc o) k s (ltb-false k n t)))
      where
        by-step : k < n → (r : Result (ℕ × S) Refusal) → step k s ≡ r → ((l : ℕ) (u : S) → k < l → walk n step m l u ≡ walk n step o l u)
            → goes (step k s) (walk n step m) ≡ goes (step k s) (walk n step o)
        by-step b (Ok x) e next = rw e (next x.0 x.1 (up k x.0 s x.1 e))
        by-step b (Err r) e next = rw e refl

    -- what is left to do makes of what a step leaves what was to be made before it
    pub walk-on : (k l : ℕ) (s t : S) (w : Result S Refusal) → k < n → step k s ≡ Ok (l, t) → walk n step (n - k) k s ≡ w → walk n step (n - l) l t ≡ w
    unfolding goes
    walk-on k l s t w h e x =
        let m : n - k ≡ suc (n - (k + 1)) = omega arith in
        walk-fuel (n - l) (n - (k + 1)) l t (omega arith) (omega (arith, up k l s t e))
        ∙ sym (walk-turn (n - (k + 1)) k s h ∙ rw e refl) ∙ rw (← m) x

  pub walk-stop : (k : ℕ) (s : S) (r : Refusal) (w : Result S Refusal) → k < n → step k s ≡ Err r → walk n step (n - k) k s ≡ w → Err r ≡ w
  unfolding goes
  walk-stop k s r w h e x =
      let m : n - k ≡ suc (n - (k + 1)) = omega arith in
      sym (walk-turn (n - (k + 1)) k s h ∙ rw e refl) ∙ rw (← m) x

  pub walk-end : (k : ℕ) (s : S) (w : Result S Refusal) → n ≤ k → walk n step (n - k) k s ≡ w → Ok s ≡ w
  walk-end k s w h x = sym (walk-over (n - k) k s h) ∙ x
