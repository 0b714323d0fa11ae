-- Columns make rows: what the sweeps and the own columns leave is the model's step, or its two steps one after the other, on each row below the panel.
-- Of two the second one's exchange may come first: the first one's elimination goes through it, with its multipliers exchanged. Assumes nothing.
use Prim.Native.Nat.{ℕ, ◌+◌, ◌<◌, ◌≤◌}
use mathlib.Core.Path.{◌≡◌, refl, sym, ◌∙◌, ap, fun_ext}
use mathlib.Core.Bool.{Bool, true, false}
use native.Mathlib.Omega.{arith}
use borrow.Author.Tests.{ltb-true, ltb-false}
use lib.Dec.{ltb}
use Rattle.model.specs.Matrix.{Row, Mat, within, exchanged_place}
use Rattle.model.specs.Step.{Step, is_block, eliminated, row_after_step}
use Rattle.model.specs.Head.{last_of}
use Rattle.model.specs.declared.Diagonal.{Diagonal}
use Rattle.model.specs.declared.Diagonal.TheVariants.{One, Two}
use Rattle.model.proofs.Cases.{test}
use Rattle.model.proofs.Exchanged.{place_same, place-under}
use Rattle.model.proofs.Recorded.{last-from}
use Rattle.grid.specs.Rules.{column_of, columns_exchanged}
use Rattle.whole.specs.Whole.{below}
use Rattle.whole.proofs.Masked.{ranged}
use Rattle.less.specs.Less.{less_at}
use Rattle.less.proofs.Column.{less-same}
use Rattle.swept.specs.Swept.{swept_first, swept_both}
use Rattle.swept.proofs.Sweeps.{place_other, place-from, strip-in, strip-left, strip-right, strip-out}
use Rattle.pairs.specs.Pairs.{step_of, row_after_both, own_by}
use Rattle.pairs.proofs.Steps.{own_same, step-own, step-later, step-before, step_past, own_in, own-left, own-right, own_out}

-- ---- the exchange of a step by its kind

row_step : (x : Diagonal) (k kp end : ℕ) (m1 m2 r : Row)
    → row_after_step end (step_of k kp x m1 m2) r ≡ eliminated (step_of k kp x m1 m2) end (λ j. r (exchanged_place (last_of k (is_block x)) kp j))
unfolding row_after_step last_of
row_step (One d) k kp end m1 m2 r = refl
row_step (Two b) k kp end m1 m2 r = refl

exchanged-row : (M E : Mat) (p q lo hi i : ℕ) → E ≡ columns_exchanged M p q lo hi → within lo hi i ≡ true → E i ≡ λ j. M i (exchanged_place p q j)
unfolding columns_exchanged
exchanged-row M E p q lo hi i e w = ap (λ (X : Mat). X i) e ∙ fun_ext λ j. rw w

exchanged-out : (M E : Mat) (p q lo hi i j : ℕ) → E ≡ columns_exchanged M p q lo hi → within lo hi i ≡ false → E i j ≡ M i j
unfolding columns_exchanged
exchanged-out M E p q lo hi i j e w = ap (λ (X : Mat). X i j) e ∙ rw w

-- the row that the step at k eliminates in is the one with its exchange made
moved_row : (M E : Mat) (x : Diagonal) (k kp e end lo hi i : ℕ) (m1 m2 : Row) → e ≡ last_of k (is_block x) → E ≡ columns_exchanged M e kp lo hi
    → within lo hi i ≡ true → eliminated (step_of k kp x m1 m2) end (E i) ≡ row_after_step end (step_of k kp x m1 m2) (M i)
moved_row M E x k kp e end lo hi i m1 m2 le ee w =
    ap (eliminated (step_of k kp x m1 m2) end)
    (exchanged-row M E e kp lo hi i ee w ∙ ap {B = Row} (λ z. λ j. M i (exchanged_place z kp j)) le)
    ∙ sym (row_step x k kp end m1 m2 (M i))

-- ---- one pivot: E after the exchange, P after the sweep, T after the own columns

module _ (M E P T I : Mat) (x : Diagonal) (k kp e end lo hi : ℕ) (le : e ≡ last_of k (is_block x)) (ee : E ≡ columns_exchanged M e kp lo hi)
    (ep : P ≡ swept_first (is_block x) E I e e k (e + 1) end lo hi) (et : T ≡ own_by P k lo hi x) where
  single-out : (i j : ℕ) → within lo hi i ≡ false → T i j ≡ M i j
  unfolding swept_first
  single-out i j w =
      ap (λ (X : Mat). X i j) et ∙ own_out P k lo hi i j x w ∙ ap (λ (X : Mat). X i j) ep ∙ strip-out E (e + 1) end lo hi _ i j w
      ∙ exchanged-out M E e kp lo hi i j ee w

  module _ (i : ℕ) (h : lo ≤ i) (g : i < hi) where
    kept : (j : ℕ) → j ≤ e → P i j ≡ E i j
    unfolding swept_first
    kept j u = ap (λ (X : Mat). X i j) ep ∙ strip-left E (e + 1) end lo hi _ i j (omega arith)

    by-step : (j : ℕ) → T i j ≡ eliminated (step_of k kp x (column_of I k) (column_of I (k + 1))) end (E i) j
    unfolding swept_first column_of
    by-step j =
        ap (λ (X : Mat). X i j) et ∙
        test (ltb j k)
        (λ t. let u : j < k = ltb-true j k t in
        own-left P k lo hi i j x u ∙ kept j (omega (arith, last-from k (is_block x))) ∙ sym (step-before k kp end _ _ (E i) j x u))
        (λ t. let u : k ≤ j = ltb-false j k t in
        test (ltb e j)
        (λ v. let past : e < j = ltb-true e j v in
        own-right P k lo hi i j x (omega arith) ∙ ap (λ (X : Mat). X i j) ep ∙
        test (ltb j end)
        (λ o. let l : j < end = ltb-true j end o in
        strip-in E (e + 1) end lo hi _ i j (omega arith) l h g
        ∙ ap (λ (c : ℕ). less_at (is_block x) (E i) k (I c k) (I c (k + 1)) (E i j)) (place_same e j)
        ∙ sym (step-later k kp end _ _ (E i) j x (omega arith) l))
        (λ o. let l : end ≤ j = ltb-false j end o in
        strip-right E (e + 1) end lo hi _ i j l ∙ sym (step_past k kp end _ _ (E i) j x (omega arith) l)))
        (λ v. let own : j ≤ e = ltb-false e j v in
        own_in P k lo hi i j x h g u (omega arith) ∙ own_same x (P i) (E i) k j (λ c y z. kept c (omega arith))
        ∙ sym (step-own k kp end _ _ (E i) j x u (omega arith))))

  step-by-rows : T ≡ below lo hi (row_after_step end (step_of k kp x (column_of I k) (column_of I (k + 1)))) M
  unfolding below
  step-by-rows =
      fun_ext λ i. ranged lo hi i
      (λ h g w. fun_ext (by-step i h g) ∙ moved_row M E x k kp e end lo hi i _ _ le ee w ∙ rw w)
      (λ w. fun_ext (λ j. single-out i j w) ∙ rw w)

-- as the code has it: in the part's first columns, by the kind that it read
pub step-rows : (M E P T I : Mat) (x : Diagonal) (block : Bool) (kp e end lo hi : ℕ) → block ≡ is_block x → e ≡ last_of 0 block
    → E ≡ columns_exchanged M e kp lo hi → P ≡ swept_first block E I e e 0 (e + 1) end lo hi → T ≡ own_by P 0 lo hi x
    → T ≡ below lo hi (row_after_step end (step_of 0 kp x (column_of I 0) (column_of I 1))) M
step-rows M E P T I x block kp e end lo hi b le ee ep et = step-by-rows M E P T I x 0 kp e end lo hi (rw b at le) ee (rw b at ep) et

-- ---- the two pivots: D and E after the two exchanges, P and Q after the two sweeps, S and T after the own columns

module _ (M D E P Q S T I : Mat) (x y : Diagonal) (k kp l kq e f end lo hi : ℕ) (le : e ≡ last_of k (is_block x)) (ll : l ≡ last_of k (is_block x) + 1)
    (lf : f ≡ last_of l (is_block y)) (reach : f ≤ kq) (row : kq < end) (ed : D ≡ columns_exchanged M e kp lo hi) (ee : E ≡ columns_exchanged D f kq lo hi)
    (ep : P ≡ swept_first (is_block x) E I f kq k l (f + 1) lo hi) (eq : Q ≡ swept_both (is_block x) (is_block y) P I f kq k l (f + 1) end lo hi)
    (es : S ≡ own_by Q k lo hi x) (et : T ≡ own_by S l lo hi y) where
  abbrev first_step : Step
  first_step = step_of k kp x (column_of I k) (column_of I (k + 1))

  abbrev second_step : Step
  second_step = step_of l kq y (column_of I l) (column_of I (l + 1))

  pivots-in : (k < l) × (l ≤ f)
  pivots-in = (omega (arith, last-from k (is_block x)), omega (arith, last-from l (is_block y)))

  -- rows that are not below
  out : (i j : ℕ) → within lo hi i ≡ false → T i j ≡ M i j
  unfolding swept_first swept_both
  out i j w =
      ap (λ (X : Mat). X i j) et ∙ own_out S l lo hi i j y w ∙ ap (λ (X : Mat). X i j) es ∙ own_out Q k lo hi i j x w
      ∙ ap (λ (X : Mat). X i j) eq ∙ strip-out P (f + 1) end lo hi _ i j w ∙ ap (λ (X : Mat). X i j) ep ∙ strip-out E l (f + 1) lo hi _ i j w
      ∙ exchanged-out D E f kq lo hi i j ee w ∙ exchanged-out M D e kp lo hi i j ed w

  module _ (i : ℕ) (h : lo ≤ i) (g : i < hi) (w : within lo hi i ≡ true) where
    -- the row after the first step and the second one's exchange
    between : Row
    between j = eliminated first_step end (D i) (exchanged_place f kq j)

    moved : (j : ℕ) → E i j ≡ D i (exchanged_place f kq j)
    moved j = ap (λ (r : Row). r j) (exchanged-row D E f kq lo hi i ee w)

    -- columns before l and past ke stay where they are
    still : (j : ℕ) → (j ≡ f → ⊥) → (j ≡ kq → ⊥) → E i j ≡ D i j
    still j u v = moved j ∙ ap (D i) (sym (place_other f kq j u v))

    before : (j : ℕ) → j < l → E i j ≡ D i j
    before j u = still j (λ t. omega (arith, pivots-in.1)) (λ t. omega (arith, pivots-in.1))

    swept-left : (j : ℕ) → j < l → P i j ≡ E i j
    unfolding swept_first
    swept-left j u = ap (λ (X : Mat). X i j) ep ∙ strip-left E l (f + 1) lo hi _ i j u

    swept-right : (j : ℕ) → f < j → P i j ≡ E i j
    unfolding swept_first
    swept-right j u = ap (λ (X : Mat). X i j) ep ∙ strip-right E l (f + 1) lo hi _ i j (omega arith)

    both_left : (j : ℕ) → j ≤ f → Q i j ≡ P i j
    unfolding swept_both
    both_left j u = ap (λ (X : Mat). X i j) eq ∙ strip-left P (f + 1) end lo hi _ i j (omega arith)

    -- the first pivot's part of column j, from l on
    first_part : (j : ℕ) → l ≤ j → j < end
        → less_at (is_block x) (E i) k (I (exchanged_place f kq j) k) (I (exchanged_place f kq j) (k + 1)) (E i j) ≡ between j
    unfolding between column_of
    first_part j u v =
        let z = exchanged_place f kq j in
        let low : l ≤ z = place-from l f kq j pivots-in.1 (omega (arith, pivots-in.1)) u in
        let high : z < end = place-under f kq end j (omega arith) row v in
        less-same (is_block x) (E i) (D i) k _ _ _ (λ a u v. before a (omega arith)) ∙ ap (less_at (is_block x) (D i) k (I z k) (I z (k + 1))) (moved j)
        ∙ sym (step-later k kp end _ _ (D i) z x (omega arith) high)

    second : (j : ℕ) → l ≤ j → j ≤ f → P i j ≡ between j
    unfolding swept_first
    second j u v =
        ap (λ (X : Mat). X i j) ep ∙ strip-in E l (f + 1) lo hi _ i j u (omega arith) h g ∙ first_part j u (omega arith)

    -- columns after both pivots, less the part of the first and then of the second
    later : (j : ℕ) → l ≤ j → f < j → j < end → Q i j ≡ eliminated second_step end between j
    unfolding swept_both column_of
    later j u v o =
        let z = exchanged_place f kq j in
        ap (λ (X : Mat). X i j) eq ∙ strip-in P (f + 1) end lo hi _ i j (omega arith) o h g
        ∙ ap (less_at (is_block y) (P i) l (I j l) (I j (l + 1)))
        (less-same (is_block x) (P i) (E i) k _ _ _ (λ a u v. swept-left a (omega arith))
        ∙ ap (less_at (is_block x) (E i) k (I z k) (I z (k + 1))) (swept-right j v)
        ∙ first_part j u o)
        ∙ less-same (is_block y) (P i) between l _ _ _ (λ a u v. second a u (omega arith)) ∙ sym (step-later l kq end _ _ between j y (omega arith) o)

    both_right : (j : ℕ) → end ≤ j → Q i j ≡ P i j
    unfolding swept_both
    both_right j u = ap (λ (X : Mat). X i j) eq ∙ strip-right P (f + 1) end lo hi _ i j u

    -- where the exchange leaves j alone
    at_place : (j : ℕ) → (j ≡ f → ⊥) → (j ≡ kq → ⊥) → between j ≡ eliminated first_step end (D i) j
    unfolding between
    at_place j u v =
        ap (eliminated first_step end (D i)) (sym (place_other f kq j u v))

    by-columns : (j : ℕ) → T i j ≡ eliminated second_step end between j
    by-columns j =
        ap (λ (X : Mat). X i j) et ∙
        test (ltb j l)
        (λ t. let u : j < l = ltb-true j l t in
        own-left S l lo hi i j y u ∙ ap (λ (X : Mat). X i j) es ∙ left j u ∙ sym (step-before l kq end _ _ between j y u))
        (λ t. let u : l ≤ j = ltb-false j l t in
        test (ltb f j)
        (λ s. let v : f < j = ltb-true f j s in
        own-right S l lo hi i j y (omega arith) ∙ ap (λ (X : Mat). X i j) es ∙ own-right Q k lo hi i j x (omega arith) ∙ right j u v)
        (λ s. let v : j ≤ f = ltb-false f j s in
        own_in S l lo hi i j y h g u (omega arith) ∙ own_same y (S i) between l j (λ a z o. own a z (omega arith))
        ∙ sym (step-own l kq end _ _ between j y u (omega arith))))
      where
        -- the second pivot's own columns
        own : (a : ℕ) → l ≤ a → a ≤ f → S i a ≡ between a
        own a z o = ap (λ (X : Mat). X i a) es ∙ own-right Q k lo hi i a x (omega arith) ∙ both_left a o ∙ second a z o

        -- columns before the second pivot
        left : (j : ℕ) → j < l → own_by Q k lo hi x i j ≡ between j
        left j u =
            let fixed = at_place j (λ t. omega (arith, pivots-in.1)) (λ t. omega (arith, pivots-in.1)) in
            test (ltb j k)
            (λ t. let v : j < k = ltb-true j k t in
            own-left Q k lo hi i j x v ∙ both_left j (omega (arith, pivots-in.1)) ∙ swept-left j u ∙ before j u
            ∙ sym (fixed ∙ step-before k kp end _ _ (D i) j x v))
            (λ t. let v : k ≤ j = ltb-false j k t in
            own_in Q k lo hi i j x h g v (omega arith)
            ∙ own_same x (Q i) (D i) k j (λ a u v. both_left a (omega (arith, pivots-in.1)) ∙ swept-left a (omega arith) ∙ before a (omega arith))
            ∙ sym (fixed ∙ step-own k kp end _ _ (D i) j x v (omega arith)))

        -- columns after it
        right : (j : ℕ) → l ≤ j → f < j → Q i j ≡ eliminated second_step end between j
        right j u v =
            test (ltb j end) (λ t. later j u v (ltb-true j end t))
            (λ t. let past : end ≤ j = ltb-false j end t in
            both_right j past ∙ swept-right j v ∙ still j (λ z. omega arith) (λ z. omega arith)
            ∙ sym (step_past l kq end _ _ between j y (omega arith) past ∙ at_place j (λ z. omega arith) (λ z. omega arith)
            ∙ step_past k kp end _ _ (D i) j x (omega (arith, pivots-in.1)) past))

    first-row : eliminated first_step end (D i) ≡ row_after_step end first_step (M i)
    first-row = moved_row M D x k kp e end lo hi i _ _ le ed w

    both-rows : T i ≡ row_after_step end second_step (row_after_step end first_step (M i))
    unfolding between
    both-rows =
        fun_ext by-columns
        ∙ ap {B = Row} (λ (r : Row). eliminated second_step end (λ j. r (exchanged_place f kq j))) first-row
        ∙ ap {B = Row}
        (λ z. eliminated second_step end (λ j. row_after_step end first_step (M i) (exchanged_place z kq j)))
        lf
        ∙ sym (row_step y l kq end _ _ (row_after_step end first_step (M i)))

  pair-by-rows : T
      ≡ below lo hi (row_after_both end (step_of k kp x (column_of I k) (column_of I (k + 1))) (step_of l kq y (column_of I l) (column_of I (l + 1)))) M
  unfolding below row_after_both
  pair-by-rows = fun_ext λ i. ranged lo hi i (λ h g w. both-rows i h g w ∙ rw w) (λ w. fun_ext (λ j. out i j w) ∙ rw w)

-- as the code has it
pub pair-rows : (M D E P Q S T I : Mat) (x y : Diagonal) (block1 block2 : Bool) (kp l kq e f end lo hi : ℕ) → block1 ≡ is_block x → block2 ≡ is_block y
    → e ≡ last_of 0 (is_block x) → l ≡ last_of 0 (is_block x) + 1 → f ≡ last_of l (is_block y) → f ≤ kq → kq < end
    → D ≡ columns_exchanged M e kp lo hi → E ≡ columns_exchanged D f kq lo hi → P ≡ swept_first block1 E I f kq 0 l (f + 1) lo hi
    → Q ≡ swept_both block1 block2 P I f kq 0 l (f + 1) end lo hi → S ≡ own_by Q 0 lo hi x → T ≡ own_by S l lo hi y
    → T ≡ below lo hi (row_after_both end (step_of 0 kp x (column_of I 0) (column_of I 1)) (step_of l kq y (column_of I l) (column_of I (l + 1)))) M
pair-rows M D E P Q S T I x y block1 block2 kp l kq e f end lo hi b1 b2 le ll lf reach row ed ee ep eq es et =
    pair-by-rows M D E P Q S T I x y 0 kp l kq e f end lo hi le ll lf reach row ed ee (rw b1 at ep) (rw (b1, b2) at eq) es et
