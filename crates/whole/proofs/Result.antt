-- What the factor takes from a run over the whole panel: a refusal is the head's, and the state at the end holds every number of the answer. Assumes nothing.
use Prim.Native.Nat.{ℕ, zero, suc, ◌+◌, ◌-◌, ◌<◌, ◌≤◌, min, max}
use mathlib.Core.Path.{◌≡◌, refl, sym, ◌∙◌, ap}
use mathlib.Core.Logic.{inl}
use mathlib.Core.Bool.{Bool}
use mathlib.Core.List.{List}
use native.Mathlib.Omega.{arith}
use borrow.Author.Tests.{ltb-true, ltb-false}
use lib.Dec.{ltb}
use Rattle.model.specs.Scalar.{is_finite}
use Rattle.model.specs.Matrix.{Row, Mat, head_of, row_of}
use Rattle.model.specs.Step.{Diagonals}
use Rattle.model.specs.Panel.{Panel, tail_row_of}
use Rattle.model.specs.Head.{State, Run, refused, done}
use Rattle.model.specs.Factor.{start, head_run_of, every_from, column_sound, result_check, fails, judged, judged_run, head_answer_of, factor_row_of, mark_of, factor_entry}
use Rattle.model.specs.declared.Pivoting.{Pivoting}
use Rattle.model.specs.declared.Refusal.{Refusal}
use Rattle.model.specs.Answer.{Check}
use Rattle.model.proofs.Cases.{test}
use Rattle.whole.specs.Whole.{stopped_by, ended, whole_panels_of, cut_state, fell, tail_rows, cut_run, finished}
use Rattle.whole.proofs.Masked.{within_in, head_at}
use Rattle.whole.proofs.Rows.{row_at}
use Rattle.whole.proofs.Run.{head-of, head-run}
use Rattle.whole.proofs.Kept.{head-run-kept}

-- ---- the result check and the marks see nothing past the cut

every-alike : (f g : ℕ → Bool) (n i : ℕ) → ((j : ℕ) → i ≤ j → j < i + n → f j ≡ g j) → every_from f n i ≡ every_from g n i
unfolding every_from
every-alike f g zero i h = refl
every-alike f g (suc n) i h = rw (h i (omega arith) (omega arith), every-alike f g n (i + 1) (λ j x y. h j (omega arith) (omega arith)))

column-masked : (c : ℕ) (D : Diagonals) (a : Mat) (k : ℕ) → column_sound c D (head_of c a) k ≡ column_sound c D a k
unfolding column_sound
column-masked c D a k =
    rw (every-alike (λ i. is_finite (head_of c a i k)) (λ i. is_finite (a i k)) (c - k) k (λ i x y. ap is_finite (head_at c a i k x (omega arith))))

check-masked : (c : ℕ) (D : Diagonals) (a : Mat) (n k : ℕ) → result_check c D (head_of c a) n k ≡ result_check c D a n k
unfolding result_check
check-masked c D a zero k = refl
check-masked c D a (suc n) k = rw (column-masked c D a k, check-masked c D a n (k + 1))

mark-masked : (c : ℕ) (r : Row) → mark_of c (row_of c r) ≡ mark_of c r
unfolding mark_of
mark-masked c r = rw (every-alike (λ j. is_finite (row_of c r j)) (λ j. is_finite (r j)) c 0 (λ j x y. ap is_finite (row_at c r j (omega arith))))

-- ---- the run and the model's

-- the state t at the end of a run over the matrix a
pub record Reached (how : Pivoting) (nrow ncol nb : ℕ) (a : Mat) (t : State) : Type 0 where
  pub state : State
  pub panels : List Panel
  pub run : head_run_of how ncol nb a ≡ done state panels
  pub same : cut_state ncol t ≡ cut_state ncol state
  pub tail : (i : ℕ) → ncol ≤ i → i < nrow → row_of ncol (t.a i) ≡ factor_row_of ncol panels (a i)
  pub upper : (i j : ℕ) → i < j → t.a i j ≡ a i j

module _ (how : Pivoting) (nrow ncol nb : ℕ) (a : Mat) (hn : ncol ≤ nrow) (hb : 1 ≤ nb) where
  -- a run refusal is the head's answer
  pub run-stopped : (why : Refusal) → whole_panels_of how nrow ncol (min nb (max ncol 1)) ncol 0 (start ncol a) ≡ stopped_by why
      → head_answer_of how ncol nb a ≡ fails why
  unfolding head_answer_of
  run-stopped why e = ap (judged_run ncol) (go (head_run_of how ncol nb a) (sym (ap (cut_run nrow ncol) e) ∙ head-run how nrow ncol nb a hn hb))
    where
      go : (r : Run) → fell why ≡ finished nrow ncol a r → r ≡ refused why
      go (refused other) x = cc
      go (done s ps) x = cc

  pub run-ended : (t : State) → whole_panels_of how nrow ncol (min nb (max ncol 1)) ncol 0 (start ncol a) ≡ ended t → Reached how nrow ncol nb a t
  unfolding tail_rows factor_row_of
  run-ended t e = go (head_run_of how ncol nb a) refl (sym (ap (cut_run nrow ncol) e) ∙ head-run how nrow ncol nb a hn hb)
    where
      go : (r : Run) → head_run_of how ncol nb a ≡ r → cut_run nrow ncol (ended t) ≡ finished nrow ncol a r → Reached how nrow ncol nb a t
      go (refused other) h x = absurd (let z : ◌≡◌ {A = ℕ} 0 1 = cc in omega arith)
      go (done s ps) h x =
          let tails : tail_rows nrow ncol (λ r. r) t.a ≡ tail_rows nrow ncol (tail_row_of ncol ps) a = cc in
          record {
            state = s;
            panels = ps;
            run = h;
            same = cc;
            tail = λ i l m. rw (within_in ncol nrow i l m) at (ap (λ (b : Mat). b i) tails);
            upper = λ i j l. head-run-kept how nrow ncol nb a t hn hb e i j (inl l);
          }

-- ---- the numbers of the answer

module _ (how : Pivoting) (nrow ncol nb : ℕ) (a : Mat) (t : State) (w : Reached how nrow ncol nb a t) where
  pub reached-pivots : t.pivots ≡ w.state.pivots
  unfolding cut_state
  reached-pivots = ap (λ (s : State). s.pivots) w.same

  pub reached-rounds : t.rounds ≡ w.state.rounds
  unfolding cut_state
  reached-rounds = ap (λ (s : State). s.rounds) w.same

  reached-check : result_check ncol t.pivots.diagonals t.a ncol 0 ≡ result_check ncol w.state.pivots.diagonals w.state.a ncol 0
  unfolding cut_state
  reached-check =
      sym (check-masked ncol t.pivots.diagonals t.a ncol 0)
      ∙ ap (λ (s : State). result_check ncol s.pivots.diagonals s.a ncol 0) w.same
      ∙ check-masked ncol w.state.pivots.diagonals w.state.a ncol 0

  -- the head's answer: the result check's refusal, or that it stands
  pub reached-answer : head_answer_of how ncol nb a ≡ judged (result_check ncol t.pivots.diagonals t.a ncol 0) w.state w.panels
  unfolding head_answer_of
  reached-answer = ap (judged_run ncol) w.run ∙ ap (λ (c : Check). judged c w.state w.panels) (sym reached-check)

  pub reached-mark : (i : ℕ) → ncol ≤ i → i < nrow → mark_of ncol (t.a i) ≡ mark_of ncol (factor_row_of ncol w.panels (a i))
  reached-mark i h l = sym (mark-masked ncol (t.a i)) ∙ ap (mark_of ncol) (w.tail i h l)

  -- row i and column j of the factor
  pub reached-entry : (i j : ℕ) → i < nrow → j < ncol → t.a i j ≡ factor_entry ncol w.state w.panels a i j
  unfolding factor_entry
  reached-entry i j h l =
      test (ltb i j)
      (λ x. rw x (w.upper i j (ltb-true i j x)))
      (λ x. let y : j ≤ i = ltb-false i j x in
      rw x (test (ltb i ncol)
      (λ z. let u : i < ncol = ltb-true i ncol z in
      rw z (sym (head_at ncol t.a i j y u) ∙ ap (λ (b : Mat). b i j) (head-of ncol t w.state w.same) ∙ head_at ncol w.state.a i j y u))
      (λ z. rw z (sym (row_at ncol (t.a i) j l) ∙ ap (λ (r : Row). r j) (w.tail i (ltb-false i ncol z) h)))))
