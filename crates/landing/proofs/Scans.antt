-- Laws of scans as a loop takes them: k is the place, w what the whole scan finds. And what a scan's result says of each place. Assumes nothing.
use mathlib.Core.Path.{◌≡◌, sym, ◌∙◌}
use mathlib.Core.Bool.{Bool, true, false}
use mathlib.Core.List.{List}
use Prim.Native.Nat.{ℕ, zero, suc, ◌+◌, ◌-◌, ◌≤◌, ◌<◌}
use native.Mathlib.Omega.{arith}
use borrow.Author.Tests.{eq-eqb, ne_eqb, eqb-true, eqb-false, ltb-true, ltb-false}
use lib.Dec.{ltb, eqb}
use lib.ListN.{length, get_or}
use Rattle.std.specs.List.{position_or_len}
use Rattle.std.proofs.lemmas.List.Sums.{position_or_len_is}
use Rattle.model.specs.Update.{place_from}
use Rattle.model.proofs.Cases.{test, one_left}
use Rattle.landing.specs.Rows.{first_from}

-- ---- the first place where f holds

-- w is the first of the places lo up to hi where f holds, and hi where it holds at none
pub record First (f : ℕ → Bool) (lo hi w : ℕ) : Type 0 where
  pub low : lo ≤ w
  pub high : w ≤ hi
  pub before : (i : ℕ) → lo ≤ i → i < w → f i ≡ false
  pub here : w < hi → f w ≡ true

pub first-is : (f : ℕ → Bool) (m i : ℕ) → First f i (i + m) (first_from f m i)
unfolding first_from
first-is f zero i = record { low = omega arith; high = omega arith; before = λ k l h. absurd (omega arith); here = λ h. absurd (omega arith) }
first-is f (suc m) i =
    let rest : First f (i + 1) (i + 1 + m) (first_from f m (i + 1)) = first-is f m (i + 1) in
    test (f i)
    (λ t. rw t (record { low = omega arith; high = omega arith; before = λ k l h. absurd (omega arith); here = λ h. t }))
    (λ t. rw t (record {
      low = omega (arith, rest.low);
      high = omega (arith, rest.high);
      before = λ k l h. test (eqb k i) (λ e. rw (eqb-true k i e) t) (λ e. rest.before k (omega (arith, eqb-false k i e)) h);
      here = λ h. rest.here (omega arith);
    }))

-- of a list: what std's 'position_or_len' finds of the test
pub first-position : (test : ℕ → Bool) (f : ℕ → Bool) (xs : List ℕ) → ((i : ℕ) → i < length xs → f i ≡ test (get_or xs i 0))
    → position_or_len test xs ≡ first_from f (length xs) 0
first-position test f xs h =
    let p : First f 0 (0 + length xs) (first_from f (length xs) 0) = first-is f (length xs) 0 in
    position_or_len_is test xs (first_from f (length xs) 0) 0 (omega (arith, p.high))
    (λ k l. sym (h k (omega (arith, p.high))) ∙ p.before k (omega arith) l)
    (λ l. sym (h (first_from f (length xs) 0) l) ∙ p.here (omega arith))

-- ---- the first place where f is g

module _ (f : ℕ → ℕ) (g n k w : ℕ) where
  pub place-step : k < n → (f k ≡ g → ⊥) → place_from f g (n - k) k ≡ w → place_from f g (n - (k + 1)) (k + 1) ≡ w
  unfolding place_from
  place-step h s e = let y : eqb (f k) g ≡ false = ne_eqb (f k) g s in rw (one_left n k h, y) at e

  pub place-hit : k < n → f k ≡ g → place_from f g (n - k) k ≡ w → k ≡ w
  unfolding place_from
  place-hit h s e = let y : eqb (f k) g ≡ true = eq-eqb (f k) g s in rw (one_left n k h, y) at e

  pub place_end : n ≤ k → place_from f g (n - k) k ≡ w → k ≡ w
  unfolding place_from
  place_end h e = let m : n - k ≡ 0 = omega arith in rw m at e

-- w is the first of the places lo up to hi where f is g, and hi where it is at none
pub record Place (f : ℕ → ℕ) (g lo hi w : ℕ) : Type 0 where
  pub low : lo ≤ w
  pub high : w ≤ hi
  pub before : (i : ℕ) → lo ≤ i → i < w → f i ≡ g → ⊥
  pub here : w < hi → f w ≡ g

place_is : (f : ℕ → ℕ) (g m i : ℕ) → Place f g i (i + m) (place_from f g m i)
unfolding place_from
place_is f g zero i = record { low = omega arith; high = omega arith; before = λ k l h e. omega arith; here = λ h. absurd (omega arith) }
place_is f g (suc m) i =
    let rest : Place f g (i + 1) (i + 1 + m) (place_from f g m (i + 1)) = place_is f g m (i + 1) in
    test (eqb (f i) g)
    (λ t. rw t (record { low = omega arith; high = omega arith; before = λ k l h e. omega arith; here = λ h. eqb-true (f i) g t }))
    (λ t. rw t (record {
      low = omega (arith, rest.low);
      high = omega (arith, rest.high);
      before = λ k l h e. test (eqb k i) (λ q. let z : k ≡ i = eqb-true k i q in eqb-false (f i) g t (rw z at e))
          (λ q. rest.before k (omega (arith, eqb-false k i q)) h e);
      here = λ h. rest.here (omega arith);
    }))

pub place-within : (f : ℕ → ℕ) (g lo hi : ℕ) → lo ≤ hi → Place f g lo hi (place_from f g (hi - lo) lo)
place-within f g lo hi h = let a : lo + (hi - lo) ≡ hi = omega arith in rw a at (place_is f g (hi - lo) lo)

pub place-all : (f : ℕ → ℕ) (g n : ℕ) → Place f g 0 n (place_from f g n 0)
place-all f g n = let a : 0 + n ≡ n = omega arith in rw a at (place_is f g n 0)

-- two such places are one
pub place-one : (f : ℕ → ℕ) (g lo hi w v : ℕ) → Place f g lo hi w → Place f g lo hi v → w ≡ v
place-one f g lo hi w v p q =
    test (eqb w v) (λ t. eqb-true w v t) (λ t. absurd (other (eqb-false w v t)))
  where
    other : (w ≡ v → ⊥) → ⊥
    other d = test (ltb w v)
        (λ l. let h : w < v = ltb-true w v l in q.before w p.low h (p.here (omega (arith, q.high))))
        (λ l. let h : v < w = omega (arith, ltb-false w v l) in p.before v q.low h (q.here (omega (arith, p.high))))
