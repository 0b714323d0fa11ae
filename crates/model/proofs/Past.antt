-- Laws of where a pivot ends: the column after it, and that another pivot begins there. Assumes nothing.
use mathlib.Core.Path.{◌≡◌, sym, ◌∙◌, ap}
use Prim.Native.Nat.{ℕ, ◌+◌, ◌≤◌, ◌<◌}
use native.Mathlib.Omega.{arith}
use borrow.Author.Tests.{eqb-true, eqb-false}
use Rattle.model.specs.Step.{begins, past_of}
use Rattle.model.specs.Kept.{Paired, Starts}
use Rattle.model.proofs.Cases.{test}

pub past-above : (f : ℕ → ℕ) (k : ℕ) → k < past_of f k
unfolding past_of
past-above f k = test (begins f k) (λ t. rw t (omega arith)) (λ t. rw t (omega arith))

pub past_near : (f : ℕ → ℕ) (k : ℕ) → past_of f k ≤ k + 2
unfolding past_of
past_near f k = test (begins f k) (λ t. rw t (omega arith)) (λ t. rw t (omega arith))

-- the pivot of one of n columns ends among them
pub past-within : (n : ℕ) (f : ℕ → ℕ) (k : ℕ) → Paired n f → k < n → past_of f k ≤ n
unfolding past_of
past-within n f k w h =
    test (begins f k) (λ t. rw t (omega (arith, w.room k h (eqb-true (f k) 1 t)))) (λ t. rw t (omega arith))

-- after a pivot another begins
pub starts-past : (n k l : ℕ) (blocks : ℕ → ℕ) → Paired n blocks → k < n → l ≡ past_of blocks k → Starts blocks l
unfolding past_of
starts-past n k l blocks w h e c at one =
    test (begins blocks k)
    (λ t. let z : c ≡ k + 1 = omega (arith, rw t at e) in
    let zero : blocks (k + 1) ≡ 0 = w.apart k h (eqb-true (blocks k) 1 t) in
    let same : blocks (k + 1) ≡ 1 = ap blocks (sym z) ∙ one in
    omega arith)
    (λ t. let z : c ≡ k = omega (arith, rw t at e) in eqb-false (blocks k) 1 t (ap blocks (sym z) ∙ one))
