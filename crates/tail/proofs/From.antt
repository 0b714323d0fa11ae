-- Steps that begin at k leave the columns before k, and see nothing of them: such a step on a row is its step on the row's columns from k on, counted
-- from there. Assumes nothing.
use Prim.Native.Nat.{ℕ, ◌+◌, ◌-◌, ◌<◌, ◌≤◌}
use mathlib.Core.Path.{◌≡◌, refl, sym, ◌∙◌, ap, fun_ext}
use native.Mathlib.Omega.{arith}
use borrow.Author.Tests.{lt-ltb, le-ltb, le-leb, lt-leb, eq-eqb, ne_eqb, eqb-true, eqb-false, ltb-true, ltb-false}
use lib.Dec.{ltb, eqb}
use Rattle.model.specs.Matrix.{Row, within, exchanged_place}
use Rattle.model.specs.Step.{is_block, eliminated, row_after_step}
use Rattle.model.specs.Head.{last_of}
use Rattle.model.specs.declared.Diagonal.{Diagonal}
use Rattle.model.specs.declared.Diagonal.TheVariants.{One, Two}
use Rattle.model.proofs.Cases.{test}
use Rattle.whole.proofs.Masked.{one_alike, two-alike}
use Rattle.swept.proofs.Sweeps.{place-from}
use Rattle.pairs.specs.Pairs.{step_of}
use Rattle.tail.specs.Tail.{from_column}

-- ---- from k on

pub record Since (k : ℕ) (f : Row → Row) : Type 0 where
  pub before : (r : Row) (j : ℕ) → j < k → f r j ≡ r j
  pub alike : (r s : Row) → ((c : ℕ) → k ≤ c → r c ≡ s c) → (j : ℕ) → k ≤ j → f r j ≡ f s j

pub since-then : (k : ℕ) (f g : Row → Row) → Since k f → Since k g → Since k (λ r. g (f r))
since-then k f g a b =
    record {
      before = λ r j h. b.before (f r) j h ∙ a.before r j h;
      alike = λ r s e. b.alike (f r) (f s) (a.alike r s e);
    }

pub since-later : (k l : ℕ) (f : Row → Row) → k ≤ l → Since l f → Since k f
since-later k l f h a =
    record {
      before = λ r j u. a.before r j (omega arith);
      alike = λ r s e j u.
          test (ltb j l)
          (λ t. let v : j < l = ltb-true j l t in a.before r j v ∙ e j u ∙ sym (a.before s j v))
          (λ t. a.alike r s (λ c w. e c (omega arith)) j (ltb-false j l t));
    }

-- ---- the exchange of two places

pub since-exchange : (k p q : ℕ) → k ≤ p → k ≤ q → Since k (λ r j. r (exchanged_place p q j))
since-exchange k p q hp hq =
    record {
      before = λ r j h. rw (ne_eqb j p (λ e. omega arith), ne_eqb j q (λ e. omega arith));
      alike = λ r s e j h. e (exchanged_place p q j) (place-from k p q j hp hq h);
    }

-- counted from k on, p is q
eqb-from : (k p q j : ℕ) → p ≡ k + q → eqb (k + j) p ≡ eqb j q
eqb-from k p q j e =
    test (eqb j q)
    (λ t. rw t (eq-eqb (k + j) p (omega (arith, eqb-true j q t))))
    (λ t. rw t (ne_eqb (k + j) p (λ u. eqb-false j q t (omega arith))))

within-from : (k lo low hi j : ℕ) → lo ≡ k + low → within lo hi (k + j) ≡ within low (hi - k) j
within-from k lo low hi j e =
    test (ltb j low)
    (λ t. let l : j < low = ltb-true j low t in rw (lt-leb lo (k + j) (omega arith), lt-leb low j l))
    (λ t. let l : low ≤ j = ltb-false j low t in
    rw (le-leb lo (k + j) (omega arith), le-leb low j l)
    (test (ltb j (hi - k))
    (λ u. rw (u, lt-ltb (k + j) hi (omega (arith, ltb-true j (hi - k) u))))
    (λ u. rw (u, le-ltb (k + j) hi (omega (arith, ltb-false j (hi - k) u))))))

moved-from : (k p q s j : ℕ) → p ≡ k + q → k ≤ s → exchanged_place p s (k + j) - k ≡ exchanged_place q (s - k) j
moved-from k p q s j e h =
    rw (eqb-from k p q j e)
    (test (eqb j q) (λ t. rw t) (λ t. rw (t, eqb-from k s (s - k) j (omega arith)) (test (eqb j (s - k)) (λ u. rw u (omega arith)) (λ u. rw u (omega arith)))))

pub from-exchange : (k p q : ℕ) → k ≤ p → k ≤ q → from_column k (λ r j. r (exchanged_place p q j)) ≡ (λ r j. r (exchanged_place (p - k) (q - k) j))
unfolding from_column
from-exchange k p q hp hq = fun_ext λ r. fun_ext λ j. ap r (moved-from k p (p - k) q j (omega arith) hq)

-- ---- one after the other

pub from_then : (k : ℕ) (f g : Row → Row) → Since k g → (r : Row) → from_column k (λ s. g (f s)) r ≡ from_column k g (from_column k f r)
unfolding from_column
from_then k f g a r =
    fun_ext λ j. a.alike (f (λ c. r (c - k))) (λ c. f (λ x. r (x - k)) (k + (c - k))) (λ c h. ap (f (λ x. r (x - k))) (omega arith)) (k + j) (omega arith)

-- ---- a step

module _ (k kp end : ℕ) (m1 m2 : Row) (h : k ≤ kp) where
  eliminated-since : (x : Diagonal) → Since k (eliminated (step_of k kp x m1 m2) end)
  unfolding eliminated
  eliminated-since (One d) =
      record {
        before = λ r j l. rw (ne_eqb j k (λ e. omega arith), lt-leb (k + 1) j (omega arith));
        alike = λ r s e j l. rw (e k (omega arith), e j l);
      }
  eliminated-since (Two b) =
      record {
        before = λ r j l. rw (ne_eqb j k (λ e. omega arith), ne_eqb j (k + 1) (λ e. omega arith), lt-leb (k + 2) j (omega arith));
        alike = λ r s e j l. rw (e k (omega arith), e (k + 1) (omega arith), e j l);
      }

  pub step-since : (x : Diagonal) → Since k (row_after_step end (step_of k kp x m1 m2))
  unfolding row_after_step
  step-since (One d) =
      since-then k (λ r j. r (exchanged_place k kp j)) (eliminated (step_of k kp (One d) m1 m2) end)
      (since-exchange k k kp (omega arith) h) (eliminated-since (One d))
  step-since (Two b) =
      since-then k (λ r j. r (exchanged_place (k + 1) kp j)) (eliminated (step_of k kp (Two b) m1 m2) end) (since-exchange k (k + 1) kp (omega arith) h)
      (eliminated-since (Two b))

-- the step at l of a row whose columns count from k on
module _ (k l kp end : ℕ) (m1 m2 : Row) (hl : k ≤ l) (hp : k ≤ kp) where
  -- what stood at c before the exchange of p and kp
  at : (r : Row) (p q c i : ℕ) → p ≡ k + q → c ≡ k + i → r (exchanged_place p kp c - k) ≡ r (exchanged_place q (kp - k) i)
  at r p q c i e f = rw f (ap r (moved-from k p q kp i e hp))

  pub from_step : (x : Diagonal)
      → from_column k (row_after_step end (step_of l kp x m1 m2))
      ≡ row_after_step (end - k) (step_of (l - k) (kp - k) x (λ j. m1 (k + j)) (λ j. m2 (k + j)))
  unfolding from_column row_after_step eliminated
  from_step (One d) =
      fun_ext λ r. fun_ext λ j.
      rw (
        at r l (l - k) (k + j) j (omega arith) refl,
        at r l (l - k) l (l - k) (omega arith) (omega arith),
        eqb-from k l (l - k) j (omega arith),
        within-from k (l + 1) (l - k + 1) end j (omega arith),
      )
  from_step (Two b) =
      fun_ext λ r. fun_ext λ j.
      rw (
        at r (l + 1) (l - k + 1) (k + j) j (omega arith) refl,
        at r (l + 1) (l - k + 1) l (l - k) (omega arith) (omega arith),
        at r (l + 1) (l - k + 1) (l + 1) (l - k + 1) (omega arith) (omega arith),
        eqb-from k l (l - k) j (omega arith),
        eqb-from k (l + 1) (l - k + 1) j (omega arith),
        within-from k (l + 2) (l - k + 2) end j (omega arith),
      )

-- multipliers past the pivot and before `end` decide; of a 1x1 the first ones
module _ (k kp end : ℕ) (m1 m2 n1 n2 : Row) where
  pub step_same : (x : Diagonal) → ((j : ℕ) → last_of k (is_block x) < j → j < end → m1 j ≡ n1 j)
      → ((j : ℕ) → last_of k (is_block x) < j → j < end → m2 j ≡ n2 j)
      → row_after_step end (step_of k kp x m1 m2) ≡ row_after_step end (step_of k kp x n1 n2)
  unfolding row_after_step last_of
  step_same (One d) e1 e2 = fun_ext λ r. fun_ext λ j. one_alike k kp kp end d m1 n1 _ _ j refl refl (λ h l. e1 j h l)
  step_same (Two b) e1 e2 = fun_ext λ r. fun_ext λ j. two-alike k kp kp end b m1 m2 n1 n2 _ _ j refl refl refl (λ h l. e1 j h l) (λ h l. e2 j h l)
