-- The loop over panels: a turn taken off the front of the run, and what the loop has at its end. Assumes nothing.
use mathlib.Core.Path.{◌≡◌, refl, sym, ◌∙◌, ap}
use Prim.Native.Nat.{ℕ, zero, suc, ◌+◌, ◌-◌, ◌≤◌, ◌<◌, min}
use native.Mathlib.Omega.{arith}
use borrow.Author.Tests.{lt-ltb, le-ltb, ltb-true}
use lib.Dec.{ltb}
use Rattle.model.specs.Step.{Pivots}
use Rattle.model.specs.Head.{State, Progress, stopped, going, panel_of}
use Rattle.model.specs.declared.Pivoting.{Pivoting}
use Rattle.model.specs.declared.Refusal.{Refusal}
use Rattle.model.proofs.Cases.{test}
use Rattle.whole.specs.Whole.{WholeRun, ended, whole_continued, whole_closed, whole_passed, whole_panels_of}
use Rattle.panels.specs.Turn.{onward, turn_of}
use Rattle.bunch_kaufman.specs.Answers.{progress}
use Rattle.bunch_kaufman.specs.Terms.{NotedTo, PanelNoted}
use Rattle.panels.specs.Run.{run_of}
use Rattle.std.specs.Prelude.{Ok, Err}

module _ (how : Pivoting) (nrow ncol nb : ℕ) (some : 1 ≤ nb) where
  -- the run from kb on, with just the panels that are left
  abbrev pub run_from : ℕ → State → WholeRun
  run_from kb s = whole_panels_of how nrow ncol nb (ncol - kb) kb s

  continued-same : (g : Progress) (e f : State → WholeRun) → ((t : State) → e t ≡ f t) → whole_continued g e ≡ whole_continued g f
  continued-same (stopped r) e f h = refl
  continued-same (going k s) e f h = h s

  -- more panels than are left change nothing
  panels-fuel : (n m kb : ℕ) (s : State) → ncol - kb ≤ n → ncol - kb ≤ m
      → whole_panels_of how nrow ncol nb n kb s ≡ whole_panels_of how nrow ncol nb m kb s
  unfolding whole_panels_of
  panels-fuel zero zero kb s h l = refl
  panels-fuel zero (suc m) kb s h l = rw (le-ltb kb ncol (omega arith))
  panels-fuel (suc n) zero kb s h l = rw (le-ltb kb ncol (omega arith))
  panels-fuel (suc n) (suc m) kb s h l =
      test (ltb kb ncol)
      (λ t. let b : kb < ncol = ltb-true kb ncol t in
      let ke = min (kb + nb) ncol in
      rw t (continued-same (panel_of ke how (ke - kb) kb s)
      (λ u. whole_panels_of how nrow ncol nb n ke (whole_passed nrow ncol (whole_closed nrow kb ke u) u))
      (λ u. whole_panels_of how nrow ncol nb m ke (whole_passed nrow ncol (whole_closed nrow kb ke u) u))
      (λ u. panels-fuel n m ke (whole_passed nrow ncol (whole_closed nrow kb ke u) u) (omega arith) (omega arith))))
      (λ t. rw t)

  turned : (kb ke : ℕ) (g : Progress) (f : State → WholeRun)
      → whole_continued g (λ u. f (whole_passed nrow ncol (whole_closed nrow kb ke u) u)) ≡ whole_continued (onward nrow ncol kb ke g) f
  turned kb ke (stopped r) f = refl
  turned kb ke (going k s) f = refl

  -- a turn taken off the front
  run-open : (kb ke : ℕ) (s : State) → kb < ncol → ke ≡ min (kb + nb) ncol
      → run_from kb s ≡ whole_continued (turn_of how nrow ncol kb ke s) (λ t. run_from ke t)
  unfolding whole_panels_of turn_of
  run-open kb ke s h e =
      let q : ncol - kb ≡ suc (ncol - (kb + 1)) = omega arith in
      let w = min (kb + nb) ncol in
      let steps : Progress = panel_of w how (w - kb) kb s in
      let rest : State → WholeRun = λ t. whole_panels_of how nrow ncol nb (ncol - (kb + 1)) w t in
      ap (λ (n : ℕ). whole_panels_of how nrow ncol nb n kb s) q
      ∙ rw (lt-ltb kb ncol h) (turned kb w steps rest
      ∙ continued-same (onward nrow ncol kb w steps) rest (λ t. run_from w t)
      (λ t. panels-fuel (ncol - (kb + 1)) (ncol - w) w t (omega arith) (omega arith))
      ∙ ap (λ (z : ℕ). whole_continued (onward nrow ncol kb z (panel_of z how (z - kb) kb s)) (λ t. run_from z t)) (sym e))

  -- the loop goes on, stops, or is done
  pub run_more : (kb ke n : ℕ) (s : State) (f : ℕ → State) (r : WholeRun) → run_from kb s ≡ r → kb < ncol → ke ≡ min (kb + nb) ncol
      → progress (Ok n) ke f ≡ turn_of how nrow ncol kb ke s → run_from ke (f n) ≡ r
  unfolding progress
  run_more kb ke n s f r e h w u = sym (ap (λ (p : Progress). whole_continued p (λ x. run_from ke x)) (sym u)) ∙ sym (run-open kb ke s h w) ∙ e

  pub run-stop : (kb ke : ℕ) (s : State) (f g : ℕ → State) (x : Refusal) (r : WholeRun) → run_from kb s ≡ r → kb < ncol → ke ≡ min (kb + nb) ncol
      → progress (Err x) ke f ≡ turn_of how nrow ncol kb ke s → run_of (Err x) g ≡ r
  unfolding progress
  run-stop kb ke s f g x r e h w u = sym (ap (λ (p : Progress). whole_continued p (λ y. run_from ke y)) (sym u)) ∙ sym (run-open kb ke s h w) ∙ e

  pub run-done : (kb : ℕ) (s : State) (r : WholeRun) → run_from kb s ≡ r → ncol ≤ kb → ended s ≡ r
  unfolding whole_panels_of
  run-done kb s r e h = let q : ncol - kb ≡ 0 = omega arith in rw q at e

-- ---- what the loop asks

-- the notes of a panel, as the next one begins with them
pub noted_more : (k ke ke' rounds : ℕ) (p : Pivots) → NotedTo k ke rounds p → ke ≤ ke' → NotedTo k ke' rounds p
noted_more k ke ke' rounds p w h =
    record { few = w.few; pair = λ c e. omega (arith, w.pair c e); partner = λ c. omega (arith, w.partner c); recorded = w.recorded }

pub done-leaves : (kb ke rounds : ℕ) (p : Pivots) → PanelNoted kb ke rounds p → NotedTo ke (ke + 1) rounds p
done-leaves kb ke rounds p w = noted_more ke ke (ke + 1) rounds p w.noted (omega arith)
