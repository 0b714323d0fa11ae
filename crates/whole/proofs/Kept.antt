-- The run over the whole panel keeps the positions above the diagonal and the rows past nrow. Assumes nothing.
use Prim.Native.Nat.{ℕ, zero, suc, ◌+◌, ◌-◌, ◌<◌, ◌≤◌, min, max}
use mathlib.Core.Path.{◌≡◌, refl, ◌∙◌, ap, subst}
use mathlib.Core.Logic.{inl, inr, ⊎_elim}
use native.Mathlib.Omega.{arith}
use borrow.Author.Tests.{ltb-true, ltb-false}
use lib.Dec.{ltb}
use Rattle.model.specs.Matrix.{Row, Mat}
use Rattle.model.specs.Head.{State, Progress, stopped, going, panel_of}
use Rattle.model.specs.Factor.{start}
use Rattle.model.specs.declared.Pivoting.{Pivoting}
use Rattle.model.proofs.Cases.{test}
use Rattle.whole.specs.Whole.{whole_closed, whole_passed, WholeRun, stopped_by, ended, whole_continued, whole_panels_of}
use Rattle.whole.proofs.Steps.{Went, Kept, Untouched, PivotsInside, inside-more, start-inside, panel-keeps, panel-inside}
use Rattle.whole.proofs.Rows.{panel-past}
use Rattle.whole.proofs.Passed.{whole_next, whole_row, whole_before, whole-past}

-- of the state at the end of a run
abbrev pub Ended : (State → Type 0) → WholeRun → Type 0
Ended P (stopped_by r) = Unit {0}
Ended P (ended s) = P s

module _ (P Q R : State → Type 0) (f : State → WholeRun) (h : (t : State) → P t → Q t → Ended R (f t)) where
  continued-ended : (r : Progress) → Went P r → Went Q r → Ended R (whole_continued r f)
  continued-ended (stopped r) x y = tt
  continued-ended (going k t) x y = h t x y

ended-then : (P Q : State → Type 0) → ((t : State) → P t → Q t) → (r : WholeRun) → Ended P r → Ended Q r
ended-then P Q h (stopped_by r) x = tt
ended-then P Q h (ended t) x = h t x

module _ (how : Pivoting) (nrow ncol nb : ℕ) (hn : ncol ≤ nrow) (hb : 1 ≤ nb) where
  passed-keeps : (kb ke : ℕ) (t : State) → PivotsInside ke t.pivots → ke ≤ ncol → Kept nrow t (whole_next nrow ncol kb ke t)
  unfolding whole_closed
  passed-keeps kb ke t w hk i j u =
      test (ltb i ke)
      (λ x. ap (λ (r : Row). r j) (whole_before nrow ncol kb ke t i (ltb-true i ke x)))
      (λ x. test (ltb i nrow)
      (λ y. ap (λ (r : Row). r j) (whole_row nrow ncol kb ke t i (ltb-false i ke x) (ltb-true i nrow y))
      ∙ (⊎_elim
      (λ h. let l : ke ≤ i = ltb-false i ke x in panel-past (whole_closed nrow kb ke t) w (min (i + 1) ncol) (t.a i) j (omega arith) (omega arith))
      (λ h. let l : i < nrow = ltb-true i nrow y in let n : ⊥ = omega arith in absurd n) u))
      (λ y. ap (λ (r : Row). r j) (whole-past nrow ncol kb ke t i (ltb-false i nrow y))))

  run-keeps : (n kb : ℕ) (s : State) → PivotsInside (kb + 1) s.pivots → Ended (Kept nrow s) (whole_panels_of how nrow ncol nb n kb s)
  unfolding whole_panels_of whole_passed
  run-keeps zero kb s w = λ i j u. refl
  run-keeps (suc n) kb s w =
      let ke = min (kb + nb) ncol in
      test (ltb kb ncol)
      (λ x. let h : kb < ncol = ltb-true kb ncol x in
      rw x (continued-ended (λ z. PivotsInside ke z.pivots) (Kept ke s) (Kept nrow s)
      (λ z. whole_panels_of how nrow ncol nb n ke (whole_next nrow ncol kb ke z))
      (λ z v p. ended-then (Kept nrow (whole_next nrow ncol kb ke z)) (Kept nrow s)
      (λ y q i j u. q i j u ∙ passed-keeps kb ke z v (omega arith) i j u ∙ p i j (⊎_elim (λ l. inl l) (λ l. inr (omega arith)) u))
      (whole_panels_of how nrow ncol nb n ke (whole_next nrow ncol kb ke z))
      (run-keeps n ke (whole_next nrow ncol kb ke z) (inside-more ke (ke + 1) _ _ (omega arith) v)))
      (panel_of ke how (ke - kb) kb s)
      (panel-inside ke how (ke - kb) kb s (inside-more (kb + 1) ke _ _ (omega arith) w))
      (panel-keeps ke how (ke - kb) kb s)))
      (λ x. rw x (λ i j u. refl))

  pub run-kept : (n kb : ℕ) (s t : State) → PivotsInside (kb + 1) s.pivots → whole_panels_of how nrow ncol nb n kb s ≡ ended t → Kept nrow s t
  run-kept n kb s t w e = subst (λ (r : WholeRun). Ended (Kept nrow s) r) e (run-keeps n kb s w)

-- the whole call
pub head-run-kept : (how : Pivoting) (nrow ncol nb : ℕ) (a : Mat) (t : State) → ncol ≤ nrow → 1 ≤ nb
    → whole_panels_of how nrow ncol (min nb (max ncol 1)) ncol 0 (start ncol a) ≡ ended t → (i j : ℕ) → Untouched nrow i j → t.a i j ≡ a i j
unfolding start
head-run-kept how nrow ncol nb a t hn hb e =
    run-kept how nrow ncol (min nb (max ncol 1)) hn (omega arith) ncol 0 (start ncol a) t (start-inside ncol a) e
