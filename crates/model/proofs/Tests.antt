-- What test numbers tell of a record of pivots goes through every step: the pivot's own number stands at its positions, and those before it keep theirs.
-- Assumes nothing.
use mathlib.Core.Path.{◌≡◌, refl, sym, ◌∙◌, subst}
use mathlib.Core.Bool.{Bool, true, false}
use Prim.Native.Nat.{ℕ, ◌+◌, ◌-◌, ◌<◌}
use native.Mathlib.Omega.{arith}
use borrow.Author.Tests.{eqb-true, ltb-true, lt-ltb}
use lib.Dec.{ltb, eqb}
use Rattle.model.specs.Choice.{test_number}
use Rattle.model.specs.Step.{ends_block}
use Rattle.model.specs.Head.{last_of}
use Rattle.model.specs.Kept.{Paired}
use Rattle.model.specs.Tests.{chooses_block, AllowedIn, in_block, ToldAt, Told}
use Rattle.model.specs.declared.Mode.{Mode}
use Rattle.model.specs.declared.PivotTest.{PivotTest}
use Rattle.model.proofs.Cases.{no, test, cmp}
use Rattle.model.proofs.Recorded.{step_bytes, bytes-before, bytes-at, bytes-second, step_puts, puts-before, puts-at, puts-second}

-- block bytes that agree at c and before it agree on whether c is in a block
in-alike : (f g : ℕ → ℕ) (c : ℕ) → f c ≡ g c → f (c - 1) ≡ g (c - 1) → in_block f c ≡ in_block g c
in-alike f g c e h = rw (e, h)

-- what is told of a position, by what equals it
told-same : {mode : Mode} {block block' : Bool} {n n' : ℕ} → ToldAt mode block n → block' ≡ block → n' ≡ n → ToldAt mode block' n'
told-same w e m = record { test = w.test; is = m ∙ w.is; kind = w.kind ∙ sym e; allowed = w.allowed }

-- no block before k reaches it
none-ends : (k : ℕ) (f : ℕ → ℕ) → Paired k f → ends_block f k ≡ false
none-ends k f w =
    test (ltb 0 k) (λ t. test (eqb (f (k - 1)) 1)
    (λ b. absurd (let r : k - 1 + 1 < k = w.room (k - 1) (let l = ltb-true 0 k t in omega arith) (eqb-true (f (k - 1)) 1 b) in omega (arith, ltb-true 0 k t)))
    (λ b. rw b (no (ltb 0 k)))) (λ t. rw t refl)

module _ (mode : Mode) (k : ℕ) (f g : ℕ → ℕ) (t : PivotTest) (allowed : AllowedIn mode t) where
  -- the test numbers after a step
  abbrev tests : Bool → ℕ → ℕ
  tests two = step_puts g k two (test_number t) (test_number t)

  -- a position of the pivot: it has the pivot's number
  told-own : (block : Bool) (n : ℕ) → n ≡ test_number t → chooses_block t ≡ block → ToldAt mode block n
  told-own block n e b = record { test = t; is = e; kind = b; allowed = allowed }

  -- its first column is in a block if it is one, and a block's second column is
  first-in : (two : Bool) → Paired k f → in_block (step_bytes f k two) k ≡ two
  first-in true w = rw (bytes-at f k true) refl
  first-in false w =
      let own : in_block (step_bytes f k false) k ≡ ends_block (step_bytes f k false) k = rw (bytes-at f k false) refl in
      own ∙ ends-alike ∙ none-ends k f w
    where
      ends-alike : ends_block (step_bytes f k false) k ≡ ends_block f k
      ends-alike = test (ltb 0 k) (λ l. rw (bytes-before f k false (k - 1) (let h = ltb-true 0 k l in omega arith)) refl) (λ l. rw l refl)

  second-in : in_block (step_bytes f k true) (k + 1) ≡ true
  second-in = let e : k + 1 - 1 ≡ k = omega arith in rw (bytes-second f k, e, bytes-at f k true, lt-ltb 0 (k + 1) (omega arith)) refl

  -- what holds before a step's columns and at them
  each : (two : Bool) (P : ℕ → Type 0) → ((c : ℕ) → c < k → P c) → P k → (two ≡ true → P (k + 1)) → (c : ℕ) → c < last_of k two + 1 → P c
  unfolding last_of
  each true P before at second c h = cmp c k (before c) (λ e. subst P (sym e) at) (λ l. let e : c ≡ k + 1 = omega arith in subst P (sym e) (second refl))
  each false P before at second c h = cmp c k (before c) (λ e. subst P (sym e) at) (λ l. absurd (omega arith))

  -- a step keeps what test numbers tell
  pub step-told : (two : Bool) → Paired k f → chooses_block t ≡ two → Told mode k f g → Told mode (last_of k two + 1) (step_bytes f k two) (tests two)
  step-told two w b x =
      let n : ℕ = test_number t in
      each two (λ c. ToldAt mode (in_block (step_bytes f k two) c) (tests two c))
      (λ c l. told-same (x c l) (in-alike (step_bytes f k two) f c (bytes-before f k two c l) (bytes-before f k two (c - 1) (omega arith)))
      (puts-before g k two n n c l))
      (told-own (in_block (step_bytes f k two) k) (tests two k) (puts-at g k two n n) (b ∙ sym (first-in two w)))
      (λ e. told-own (in_block (step_bytes f k two) (k + 1)) (tests two (k + 1)) (rw e (puts-second g k n n)) (b ∙ e ∙ sym (rw e second-in)))

-- nothing is told yet
pub none-told : (mode : Mode) (f g : ℕ → ℕ) → Told mode 0 f g
none-told mode f g = λ c h. absurd (omega arith)

-- what is told of some bytes and numbers is told of those that agree with them before n
pub told-alike : (mode : Mode) (n : ℕ) (f g f' g' : ℕ → ℕ) → ((k : ℕ) → k < n → f' k ≡ f k) → ((k : ℕ) → k < n → g' k ≡ g k)
    → Told mode n f g → Told mode n f' g'
told-alike mode n f g f' g' b t w = λ k h. told-same (w k h) (in-alike f' f k (b k h) (b (k - 1) (omega arith))) (t k h)
