-- Laws of an order of rows: what refusal 26's test says of it, a vector put back in it, and permutations. Assumes nothing.
use Rattle.std.specs.Prelude.{Ok}
use mathlib.Core.Path.{◌≡◌, refl, sym, ◌∙◌, ap}
use mathlib.Core.Bool.{true, false, true≢false, not}
use Prim.Native.Nat.{ℕ, zero, suc, ◌+◌, ◌≤◌, ◌<◌}
use native.Mathlib.Omega.{arith}
use borrow.Author.Tests.{not-true, eqb-true, eqb-false, eq-eqb, ne_eqb, lt-ltb, ltb-true, ltb-false}
use lib.Dec.{ltb, eqb}
use Rattle.std.proofs.Math.Bool.{or-true}
use Rattle.model.specs.Matrix.{Row, put, exchanged_place, swapped, naturals, tabulate}
use Rattle.model.specs.Assembly.{first_not}
use Rattle.model.specs.Solve.{named, order_sound, order_at, returned_from}
use Rattle.model.specs.Kept.{Permutes}
use Rattle.model.proofs.Every.{first-all}
use Rattle.model.proofs.Cases.{test, cmp, and_left, and_right}
use Rattle.model.proofs.Tabulated.{get_d_tabulate}
use Rattle.model.proofs.Exchanged.{place_twice, place-past}

-- ---- the test of a position

named-there : (f : ℕ → ℕ) (k j : ℕ) (r : ℕ) → j < k → f j ≡ r → named f k r ≡ true
unfolding named
named-there f zero j r h e = absurd (omega arith)
named-there f (suc k) j r h e =
    test (eqb j k)
    (λ t. rw (eq-eqb (f k) r (ap f (sym (eqb-true j k t)) ∙ e)) (or-true (named f k r)))
    (λ t. rw (named-there f k j r (omega (arith, eqb-false j k t)) e))

-- what a sound position says: it names one of the n rows, and none that an earlier position names
pub sound-inside : (f : ℕ → ℕ) (n k : ℕ) → order_sound f n k ≡ true → f k < n
unfolding order_sound
sound-inside f n k h = ltb-true (f k) n (and_left (ltb (f k) n) _ h)

pub sound-apart : (f : ℕ → ℕ) (n k j : ℕ) → order_sound f n k ≡ true → j < k → f k ≡ f j → ⊥
unfolding order_sound
sound-apart f n k j h o e =
    true≢false (sym (named-there f k j (f k) o (sym e)) ∙ not-true (named f k (f k)) (and_right (ltb (f k) n) (not (named f k (f k))) h))

-- of an order that refusal 26 does not meet
pub order-inside : (f : ℕ → ℕ) (n : ℕ) → first_not (order_sound f n) order_at n 0 ≡ Ok tt → (i : ℕ) → i < n → f i < n
order-inside f n h i l = sound-inside f n i (first-all (order_sound f n) order_at n i h l)

pub order-apart : (f : ℕ → ℕ) (n : ℕ) → first_not (order_sound f n) order_at n 0 ≡ Ok tt → (i j : ℕ) → i < n → j < n → f i ≡ f j → i ≡ j
order-apart f n h i j l m e =
    cmp i j (λ c. absurd (sound-apart f n j i (first-all (order_sound f n) order_at n j h m) c (sym e))) (λ c. c)
    (λ c. absurd (sound-apart f n i j (first-all (order_sound f n) order_at n i h l) c e))

-- ---- an order that is a permutation

-- a row that no position before k names
unnamed : (f : ℕ → ℕ) (k r : ℕ) → ((j : ℕ) → j < k → f j ≡ r → ⊥) → named f k r ≡ false
unfolding named
unnamed f zero r h = refl
unnamed f (suc k) r h = rw (unnamed f k r (λ j o e. h j (omega arith) e), ne_eqb (f k) r (h k (omega arith)))

pub sound-order : (n : ℕ) (f : ℕ → ℕ) → ((i : ℕ) → i < n → f i < n) → ((i j : ℕ) → i < n → j < n → f i ≡ f j → i ≡ j) → (m k : ℕ) → k + m ≤ n
    → first_not (order_sound f n) order_at m k ≡ Ok tt
unfolding first_not order_sound
sound-order n f inside distinct zero k h = refl
sound-order n f inside distinct (suc m) k h =
    let there : ltb (f k) n ≡ true = lt-ltb (f k) n (inside k (omega arith)) in
    let first : named f k (f k) ≡ false
    = unnamed f k (f k) (λ j o e. let z : j ≡ k = distinct j k (omega arith) (omega arith) e in omega arith) in
    rw (there, first) (sound-order n f inside distinct m (k + 1) (omega arith))

-- ---- the order undone

-- a row that none of m positions from k on names keeps its number
returned-kept : (order : ℕ → ℕ) (x : Row) (m k : ℕ) (b : Row) (r : ℕ) → ((j : ℕ) → k ≤ j → j < k + m → order j ≡ r → ⊥)
    → returned_from order x m k b r ≡ b r
unfolding returned_from put
returned-kept order x zero k b r h = refl
returned-kept order x (suc m) k b r h =
    returned-kept order x m (k + 1) (put b (order k) (x k)) r (λ j p q e. h j (omega arith) (omega arith) e)
    ∙ rw (ne_eqb r (order k) (λ e. h k (omega arith) (omega arith) (sym e)))

-- the row of position i gets its number, if no later position names it
pub returned-at : (order : ℕ → ℕ) (x : Row) (m k : ℕ) (b : Row) (i : ℕ) → ((j : ℕ) → j < k + m → i < j → order j ≡ order i → ⊥) → k ≤ i → i < k + m
    → returned_from order x m k b (order i) ≡ x i
unfolding returned_from put
returned-at order x zero k b i apart p q = absurd (omega arith)
returned-at order x (suc m) k b i apart p q =
    test (eqb i k)
    (λ t. let e : i ≡ k = eqb-true i k t in
    returned-kept order x m (k + 1) (put b (order k) (x k)) (order i) (λ j u v. apart j (omega arith) (omega arith))
    ∙ rw (e, eq-eqb (order k) (order k) refl))
    (λ t. returned-at order x m (k + 1) (put b (order k) (x k)) i (λ j u v. apart j (omega arith) v) (omega (arith, eqb-false i k t)) (omega arith))

-- ---- permutations

-- every row in its place
pub own-places : (n : ℕ) → Permutes n (λ i. i)
own-places n = record { inverse = λ i. i; left = λ i. refl; right = λ i. refl; fixes = λ i h. refl }

-- an exchange of two places below n leaves a permutation
pub swapped-permutes : (n : ℕ) (f : ℕ → ℕ) (p q : ℕ) → p < n → q < n → Permutes n f → Permutes n (swapped f p q)
unfolding swapped
swapped-permutes n f p q hp hq w = record {
  inverse = λ i. exchanged_place p q (w.inverse i);
  left = λ i. ap (λ (x : ℕ). exchanged_place p q x) (w.left (exchanged_place p q i)) ∙ place_twice p q i;
  right = λ i. ap f (place_twice p q (w.inverse i)) ∙ w.right i;
  fixes = λ i h. ap f (place-past p q n i hp hq h) ∙ w.fixes i h;
}

pub permutes-apart : (n : ℕ) (f : ℕ → ℕ) → Permutes n f → (i j : ℕ) → f i ≡ f j → i ≡ j
permutes-apart n f w i j e = sym (w.left i) ∙ ap w.inverse e ∙ w.left j

-- from n on, a limit stays a limit
pub permutes_inside : (n m : ℕ) (f : ℕ → ℕ) → Permutes n f → n ≤ m → (i : ℕ) → i < m → f i < m
permutes_inside n m f w l i h =
    test (ltb (f i) m) (λ t. ltb-true (f i) m t)
    (λ t. let g : m ≤ f i = ltb-false (f i) m t in let same : f i ≡ i = permutes-apart n f w (f i) i (w.fixes (f i) (omega arith)) in omega arith)

-- so refusal 26 does not meet it as a list
pub tabulated-order : (n : ℕ) (f : ℕ → ℕ) → Permutes n f → first_not (order_sound (naturals (tabulate n f)) n) order_at n 0 ≡ Ok tt
unfolding naturals
tabulated-order n f w =
    let at : (i : ℕ) → i < n → naturals (tabulate n f) i ≡ f i = λ i h. get_d_tabulate n i f 0 h in
    sound-order n (naturals (tabulate n f)) (λ i h. omega (arith, at i h, permutes_inside n n f w (omega arith) i h))
    (λ i j h g e. permutes-apart n f w i j (sym (at i h) ∙ e ∙ at j g)) n 0 (omega arith)
