-- A panel's steps on the rows below it: a step or two on the rows' columns from k on, the loop. Assumes nothing.
use Prim.Native.Nat.{ℕ, zero, suc, ◌+◌, ◌-◌, ◌<◌, ◌≤◌}
use mathlib.Core.Path.{◌≡◌, refl, sym, ◌∙◌, ap, fun_ext}
use mathlib.Core.Bool.{Bool, true, false}
use mathlib.Core.List.{List}
use native.Mathlib.Omega.{arith}
use borrow.Author.Tests.{lt-ltb, le-ltb}
use lib.Dec.{ltb}
use lib.Ieee.{Float}
use Rattle.model.specs.Matrix.{Row, Mat, vec, naturals, within, exchanged_place}
use Rattle.model.specs.Step.{Diagonals, diagonals_of, begins, is_block, diagonal_at, past_of, step_at, first_of, arrived, row_stepped, row_after_step, row_after_steps}
use Rattle.model.specs.declared.Diagonal.{Diagonal}
use Rattle.model.proofs.Past.{past-above}
use Rattle.model.proofs.Cases.{test}
use Rattle.grid.specs.Rules.{column_of, columns_exchanged}
use Rattle.whole.specs.Whole.{below}
use Rattle.pairs.specs.Pairs.{step_of, row_after_both}
use Rattle.model.proofs.Recorded.{last-from}
use Rattle.model.proofs.Exchanged.{place_same}
use Rattle.tail.specs.Tail.{from_column, row_stepped_twice, HerePre}
use Rattle.tail.proofs.From.{Since, since-then, since-later, since-exchange, from-exchange, from_then, step-since, from_step, step_same}
use Rattle.tail.proofs.Asked.{partner-ahead}

-- ---- rows below, one thing after the other

below_then : (lo hi : ℕ) (f g : Row → Row) (M : Mat) → below lo hi g (below lo hi f M) ≡ below lo hi (λ r. g (f r)) M
unfolding below
below_then lo hi f g M = fun_ext λ i. test (within lo hi i) (λ t. rw t) (λ t. rw t)

-- ---- the exchange before a step

-- it goes back to no column before k
arrived-since : (blocks partners : ℕ → ℕ) (k : ℕ) → k ≤ first_of blocks partners k → Since k (arrived blocks partners k)
unfolding arrived
arrived-since blocks partners k h = since-exchange k k (first_of blocks partners k) (omega arith) h

arrived-by : (blocks partners : ℕ → ℕ) (k p : ℕ) → first_of blocks partners k ≡ p → arrived blocks partners k ≡ (λ r j. r (exchanged_place k p j))
unfolding arrived
arrived-by blocks partners k p e = fun_ext λ r. fun_ext λ j. ap (λ (z : ℕ). r (exchanged_place k z j)) e

first_block : (blocks partners : ℕ → ℕ) (k : ℕ) → begins blocks k ≡ true → first_of blocks partners k ≡ partners (k + 1)
unfolding first_of
first_block blocks partners k b = rw b

first-single : (blocks partners : ℕ → ℕ) (k : ℕ) → begins blocks k ≡ false → first_of blocks partners k ≡ k
unfolding first_of
first-single blocks partners k b = rw b

columns-below : (M : Mat) (p q lo hi : ℕ) → columns_exchanged M p q lo hi ≡ below lo hi (λ r j. r (exchanged_place p q j)) M
unfolding columns_exchanged below
columns-below M p q lo hi = fun_ext λ i. fun_ext λ j. test (within lo hi i) (λ t. rw t) (λ t. rw t)

below_none : (M : Mat) (lo hi : ℕ) (f : Row → Row) → ((r : Row) → f r ≡ r) → M ≡ below lo hi f M
unfolding below
below_none M lo hi f e = fun_ext λ i. test (within lo hi i) (λ t. rw t (sym (e (M i)))) (λ t. rw t)

module _ (M Q : Mat) (blocks partners : ℕ → ℕ) (rows k : ℕ) (t : Bool) (e : t ≡ begins blocks k) where
  pub arrive-block : (p q : ℕ) → t ≡ true → p ≡ partners (k + 1) → k ≤ p → q ≡ p - k → Q ≡ columns_exchanged M 0 q 0 rows
      → Q ≡ below 0 rows (from_column k (arrived blocks partners k)) M
  arrive-block p q z o h d w =
      let at : k - k ≡ 0 = omega arith in
      w ∙ columns-below M 0 q 0 rows
      ∙ ap (λ (f : Row → Row). below 0 rows f M)
      (sym (ap (from_column k) (arrived-by blocks partners k p (first_block blocks partners k (sym e ∙ z) ∙ sym o))
      ∙ from-exchange k k p (omega arith) h ∙ ap (λ (c : ℕ). λ (r : Row) (j : ℕ). r (exchanged_place c (p - k) j)) at
      ∙ ap (λ (c : ℕ). λ (r : Row) (j : ℕ). r (exchanged_place 0 c j)) (sym d)))

module _ (M : Mat) (blocks partners : ℕ → ℕ) (rows k : ℕ) (t : Bool) (e : t ≡ begins blocks k) where
  pub arrive-single : t ≡ false → M ≡ below 0 rows (from_column k (arrived blocks partners k)) M
  unfolding from_column
  arrive-single z =
      below_none M 0 rows (from_column k (arrived blocks partners k))
      (λ r. fun_ext λ j.
      ap (λ (f : Row → Row). f (λ c. r (c - k)) (k + j)) (arrived-by blocks partners k k (first-single blocks partners k (sym e ∙ z)))
      ∙ ap (λ (c : ℕ). r (c - k)) (place_same k (k + j)) ∙ ap r (omega arith))

-- ---- a step on the columns from k on

-- the record's step at l by its pivot
step-at : (ds ss : List Float) (bs ps : List ℕ) (I : Mat) (l : ℕ)
    → step_at (diagonals_of ds ss bs) (naturals ps) I l
    ≡ step_of l (naturals ps l) (diagonal_at (vec ds) (vec ss) (naturals bs) l) (column_of I l) (column_of I (l + 1))
unfolding step_at diagonal_at column_of
step-at ds ss bs ps I l = test (begins (naturals bs) l) (λ t. rw t) (λ t. rw t)

-- it leaves the columns before l
module _ (ds ss : List Float) (bs ps : List ℕ) (I : Mat) (ke : ℕ) where
  record-since : (l : ℕ) → l ≤ naturals ps l → Since l (row_after_step ke (step_at (diagonals_of ds ss bs) (naturals ps) I l))
  record-since l h =
      rw (step-at ds ss bs ps I l)
      (step-since l (naturals ps l) ke (column_of I l) (column_of I (l + 1)) h (diagonal_at (vec ds) (vec ss) (naturals bs) l))

  pub stepped-since : (k : ℕ) → HerePre ke (naturals bs) (naturals ps) k → Since k (row_stepped (diagonals_of ds ss bs) (naturals ps) I ke k)
  unfolding row_stepped
  stepped-since k here =
      since-then k (arrived (naturals bs) (naturals ps) k) (row_after_step ke (step_at (diagonals_of ds ss bs) (naturals ps) I k))
      (arrived-since (naturals bs) (naturals ps) k here.ahead.first) (record-since k (partner-ahead ke (naturals bs) (naturals ps) k here))

  -- a step that makes no exchange before its own
  stays_step : (l : ℕ) → first_of (naturals bs) (naturals ps) l ≡ l
      → row_stepped (diagonals_of ds ss bs) (naturals ps) I ke l ≡ row_after_step ke (step_at (diagonals_of ds ss bs) (naturals ps) I l)
  unfolding row_stepped arrived
  stays_step l e =
      fun_ext λ r. ap (row_after_step ke (step_at (diagonals_of ds ss bs) (naturals ps) I l))
      (fun_ext λ j. ap r (ap (λ (q : ℕ). exchanged_place l q j) e ∙ place_same l j))

  pub both-since : (k l : ℕ) → HerePre ke (naturals bs) (naturals ps) k → HerePre ke (naturals bs) (naturals ps) l → k ≤ l
      → Since k (row_stepped_twice (diagonals_of ds ss bs) (naturals ps) I ke k l)
  unfolding row_stepped_twice
  both-since k l here there h =
      since-then k (row_stepped (diagonals_of ds ss bs) (naturals ps) I ke k) (row_stepped (diagonals_of ds ss bs) (naturals ps) I ke l) (stepped-since k here)
      (since-later k l (row_stepped (diagonals_of ds ss bs) (naturals ps) I ke l) h (stepped-since l there))

-- by the multipliers J that were lent from row and column k on
module _ (I J : Mat) (ke k : ℕ) (kept : (j c : ℕ) → k + j < ke → k + c < ke → J j c ≡ I (k + j) (k + c)) where
  counted : (l kp : ℕ) (x : Diagonal) → k ≤ l → k ≤ kp
      → from_column k (row_after_step ke (step_of l kp x (column_of I l) (column_of I (l + 1))))
      ≡ row_after_step (ke - k) (step_of (l - k) (kp - k) x (column_of J (l - k)) (column_of J (l - k + 1)))
  unfolding column_of
  counted l kp x hl hp =
      from_step k l kp ke (column_of I l) (column_of I (l + 1)) hl hp x
      ∙ step_same (l - k) (kp - k) (ke - k) _ _ _ _ x
      (λ j u v. sym (kept j (l - k) (omega arith) (omega (arith, last-from (l - k) (is_block x))) ∙ ap (I (k + j)) (omega arith)))
      (λ j u v. sym (kept j (l - k + 1) (omega arith) (omega (arith, last-from (l - k) (is_block x))) ∙ ap (I (k + j)) (omega arith)))

  module _ (ds ss : List Float) (bs ps : List ℕ) where
    -- the record's step at l, which is column c
    counted-at : (l q c : ℕ) (x : Diagonal) → k ≤ l → k ≤ naturals ps l → x ≡ diagonal_at (vec ds) (vec ss) (naturals bs) l → q ≡ naturals ps l - k → c ≡ l - k
        → from_column k (row_after_step ke (step_at (diagonals_of ds ss bs) (naturals ps) I l))
        ≡ row_after_step (ke - k) (step_of c q x (column_of J c) (column_of J (c + 1)))
    counted-at l q c x hl hp e d f = rw (step-at ds ss bs ps I l, ← e, counted l (naturals ps l) x hl hp, d, f)

    module _ (M E T : Mat) (rows : ℕ) (here : HerePre ke (naturals bs) (naturals ps) k)
        (ee : E ≡ below 0 rows (from_column k (arrived (naturals bs) (naturals ps) k)) M) where
      first_counted : (q : ℕ) (x : Diagonal) → x ≡ diagonal_at (vec ds) (vec ss) (naturals bs) k → q ≡ naturals ps k - k → (r : Row)
          → row_after_step (ke - k) (step_of 0 q x (column_of J 0) (column_of J 1)) (from_column k (arrived (naturals bs) (naturals ps) k) r)
          ≡ from_column k (row_stepped (diagonals_of ds ss bs) (naturals ps) I ke k) r
      unfolding row_stepped
      first_counted q x e d r =
          let ahead = partner-ahead ke (naturals bs) (naturals ps) k here in
          sym (from_then k (arrived (naturals bs) (naturals ps) k) (row_after_step ke (step_at (diagonals_of ds ss bs) (naturals ps) I k))
          (record-since ds ss bs ps I ke k ahead) r
          ∙ ap (λ (f : Row → Row). f (from_column k (arrived (naturals bs) (naturals ps) k) r)) (counted-at k q 0 x (omega arith) ahead e d (omega arith)))

      pub step-done : (q : ℕ) (x : Diagonal) → x ≡ diagonal_at (vec ds) (vec ss) (naturals bs) k → q ≡ naturals ps k - k
          → T ≡ below 0 rows (row_after_step (ke - k) (step_of 0 q x (column_of J 0) (column_of J 1))) E
          → T ≡ below 0 rows (from_column k (row_stepped (diagonals_of ds ss bs) (naturals ps) I ke k)) M
      step-done q x e d t =
          t ∙ ap (below 0 rows (row_after_step (ke - k) (step_of 0 q x (column_of J 0) (column_of J 1)))) ee ∙ below_then 0 rows _ _ M
          ∙ ap (λ (f : Row → Row). below 0 rows f M) (fun_ext (first_counted q x e d))

      -- and the step at l, which makes no exchange before its own
      pub pair-done : (l q s c : ℕ) (x y : Diagonal) → k ≤ l → HerePre ke (naturals bs) (naturals ps) l → first_of (naturals bs) (naturals ps) l ≡ l
          → x ≡ diagonal_at (vec ds) (vec ss) (naturals bs) k → y ≡ diagonal_at (vec ds) (vec ss) (naturals bs) l
          → q ≡ naturals ps k - k → s ≡ naturals ps l - k → c ≡ l - k
          → T ≡ below 0 rows (row_after_both (ke - k) (step_of 0 q x (column_of J 0) (column_of J 1)) (step_of c s y (column_of J c) (column_of J (c + 1)))) E
          → T ≡ below 0 rows (from_column k (row_stepped_twice (diagonals_of ds ss bs) (naturals ps) I ke k l)) M
      unfolding row_after_both row_stepped_twice
      pair-done l q s c x y h there still e g d o f t =
          let ahead = partner-ahead ke (naturals bs) (naturals ps) l there in
          let second = row_stepped (diagonals_of ds ss bs) (naturals ps) I ke l in
          t ∙ ap (below 0 rows _) ee ∙ below_then 0 rows _ _ M
          ∙ ap (λ (z : Row → Row). below 0 rows z M) (fun_ext λ r.
          ap (row_after_step (ke - k) (step_of c s y (column_of J c) (column_of J (c + 1)))) (first_counted q x e d r)
          ∙ ap (λ (z : Row → Row). z (from_column k (row_stepped (diagonals_of ds ss bs) (naturals ps) I ke k) r))
          (sym (ap (from_column k) (stays_step ds ss bs ps I ke l still) ∙ counted-at l s c y h (omega arith) g o f))
          ∙ sym (from_then k (row_stepped (diagonals_of ds ss bs) (naturals ps) I ke k) second
          (since-later k l second h (stepped-since ds ss bs ps I ke l there)) r))

-- ---- the loop

-- fuel past the columns that are left changes nothing
steps-fuel : (D : Diagonals) (q : ℕ → ℕ) (m : Mat) (ke n l k : ℕ) (r : Row) → ke - k ≤ n → ke - k ≤ l
    → row_after_steps D q m ke n k r ≡ row_after_steps D q m ke l k r
unfolding row_after_steps
steps-fuel D q m ke zero zero k r h g = refl
steps-fuel D q m ke zero (suc l) k r h g = rw (le-ltb k ke (omega arith))
steps-fuel D q m ke (suc n) zero k r h g = rw (le-ltb k ke (omega arith))
steps-fuel D q m ke (suc n) (suc l) k r h g =
    test (ltb k ke)
    (λ t. rw t (steps-fuel D q m ke n l (past_of D.blocks k) (row_stepped D q m ke k r)
    (omega (arith, past-above D.blocks k)) (omega (arith, past-above D.blocks k))))
    (λ t. rw t)

-- one step taken off
steps-open : (D : Diagonals) (q : ℕ → ℕ) (m : Mat) (ke k : ℕ) (r : Row) → k < ke
    → row_after_steps D q m ke (ke - k) k r ≡ row_after_steps D q m ke (ke - past_of D.blocks k) (past_of D.blocks k) (row_stepped D q m ke k r)
unfolding row_after_steps
steps-open D q m ke k r h =
    let z : ke - k ≡ suc (ke - (k + 1)) = omega arith in
    ap (λ (f : ℕ). row_after_steps D q m ke f k r) z
    ∙ rw (lt-ltb k ke h) (steps-fuel D q m ke (ke - (k + 1)) (ke - past_of D.blocks k) (past_of D.blocks k) (row_stepped D q m ke k r)
    (omega (arith, past-above D.blocks k)) (omega arith))

steps-more : (D : Diagonals) (q : ℕ → ℕ) (m M N R : Mat) (n ke k : ℕ) → below ke n (row_after_steps D q m ke (ke - k) k) M ≡ R → k < ke
    → N ≡ below ke n (row_stepped D q m ke k) M
    → below ke n (row_after_steps D q m ke (ke - past_of D.blocks k) (past_of D.blocks k)) N ≡ R
unfolding below
steps-more D q m M N R n ke k e h s =
    rw s (fun_ext λ i. test (within ke n i) (λ t. rw t (sym (steps-open D q m ke k (M i) h))) (λ t. rw t)) ∙ e

-- one step taken off, or two
module _ (ds ss : List Float) (bs ps : List ℕ) (m M N : Mat) (n ke k l : ℕ) (here : k < ke) (el : l ≡ past_of (naturals bs) k) where
  pub turned-step : N ≡ below ke n (row_stepped (diagonals_of ds ss bs) (naturals ps) m ke k) M
      → below ke n (row_after_steps (diagonals_of ds ss bs) (naturals ps) m ke (ke - l) l) N
      ≡ below ke n (row_after_steps (diagonals_of ds ss bs) (naturals ps) m ke (ke - k) k) M
  turned-step s = rw el (steps-more (diagonals_of ds ss bs) (naturals ps) m M N _ n ke k refl here s)

  pub turned-both : (r : ℕ) → l < ke → r ≡ past_of (naturals bs) l → N ≡ below ke n (row_stepped_twice (diagonals_of ds ss bs) (naturals ps) m ke k l) M
      → below ke n (row_after_steps (diagonals_of ds ss bs) (naturals ps) m ke (ke - r) r) N
      ≡ below ke n (row_after_steps (diagonals_of ds ss bs) (naturals ps) m ke (ke - k) k) M
  unfolding row_stepped_twice
  turned-both r h er s =
      let D = diagonals_of ds ss bs in
      let q = naturals ps in
      let first = below ke n (row_stepped D q m ke k) M in
      rw er (steps-more D q m first N _ n ke l (rw el (steps-more D q m M first _ n ke k refl here refl)) h
      (s ∙ sym (below_then ke n (row_stepped D q m ke k) (row_stepped D q m ke l) M)))

pub tail-end : (D : Diagonals) (q : ℕ → ℕ) (m M R : Mat) (n ke k : ℕ) → ke ≤ k → below ke n (row_after_steps D q m ke (ke - k) k) M ≡ R → M ≡ R
unfolding below row_after_steps
tail-end D q m M R n ke k h e =
    let z : ke - k ≡ 0 = omega arith in
    (fun_ext λ i. test (within ke n i) (λ t. rw (t, z)) (λ t. rw t)) ∙ e
