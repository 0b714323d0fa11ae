-- The run over the whole panel, cut to the head and the tail rows, is the model's run of the head with the tail rows sent through its panels. Assumes nothing.
use Prim.Native.Nat.{ℕ, zero, suc, ◌+◌, ◌-◌, ◌<◌, ◌≤◌, min, max}
use mathlib.Core.Path.{◌≡◌, refl, sym, ◌∙◌, ap, subst, fun_ext}
use mathlib.Core.Logic.{inr}
use mathlib.Core.List.{◌∷◌}
use native.Mathlib.Omega.{arith}
use borrow.Author.Tests.{ltb-true}
use lib.Dec.{ltb}
use Rattle.model.specs.Matrix.{Row, Mat, head_of, row_of}
use Rattle.model.specs.Panel.{row_after_panel, tail_row_of}
use Rattle.model.specs.Head.{State, Progress, stopped, going, panel_of, Run, refused, done, closed, with_panel, continued, panels_of}
use Rattle.model.specs.Factor.{start, head_run_of}
use Rattle.model.specs.declared.Pivoting.{Pivoting}
use Rattle.model.proofs.Cases.{test}
use Rattle.whole.specs.Whole.{whole_passed, WholeRun, whole_continued, whole_panels_of, cut_state, cut_progress, stood, tail_rows, cut_run, finished}
use Rattle.whole.proofs.Masked.{ranged, head-twice}
use Rattle.whole.proofs.Steps.{Went, Kept, PivotsInside, inside-more, start-inside, panel-masked, panel-keeps, panel-inside}
use Rattle.whole.proofs.Passed.{whole_next, head_next, with_head, tail-passed, state-passed}

-- ---- after a panel's steps

module _ (nrow ncol : ℕ) (a : Mat) (P Q : State → Type 0) (f : State → WholeRun) (g : State → Run)
    (h : (t u : State) → cut_state ncol t ≡ cut_state ncol u → P t → Q t → cut_run nrow ncol (f t) ≡ finished nrow ncol a (g u)) where
  continued-alike : (r o : Progress) → cut_progress ncol r ≡ cut_progress ncol o → Went P r → Went Q r
      → cut_run nrow ncol (whole_continued r f) ≡ finished nrow ncol a (continued o g)
  continued-alike (stopped r) (stopped o) e x y = cc
  continued-alike (stopped r) (going k u) e x y = cc
  continued-alike (going k t) (stopped o) e x y = cc
  continued-alike (going k t) (going j u) e x y = h t u (cc) x y

-- ---- the tail rows

tail-rows-alike : (nrow ncol : ℕ) (f g : Row → Row) (a b : Mat) → ((i : ℕ) → ncol ≤ i → i < nrow → f (row_of ncol (a i)) ≡ g (row_of ncol (b i)))
    → tail_rows nrow ncol f a ≡ tail_rows nrow ncol g b
unfolding tail_rows
tail-rows-alike nrow ncol f g a b h = fun_ext λ i. ranged ncol nrow i (λ x y t. rw t (h i x y)) (λ t. rw t)

-- ---- the state

pub head-of : (c : ℕ) (t u : State) → cut_state c t ≡ cut_state c u → head_of c t.a ≡ head_of c u.a
unfolding cut_state
head-of c t u e = ap (λ (s : State). s.a) e

-- two states with one head differ in their matrices alone
only-head : (c : ℕ) (t u : State) → cut_state c t ≡ cut_state c u → with_head t u.a ≡ u
unfolding cut_state
only-head c t u e = λ i. record { a = u.a; mult = (e i).mult; pivots = (e i).pivots; rounds = (e i).rounds }

cut_twice : (c : ℕ) (s : State) → cut_state c (cut_state c s) ≡ cut_state c s
unfolding cut_state
cut_twice c s = λ i. record { a = head-twice c s.a i; mult = s.mult; pivots = s.pivots; rounds = s.rounds }

-- ---- the panels in turn

module _ (how : Pivoting) (nrow ncol nb : ℕ) (hn : ncol ≤ nrow) (hb : 1 ≤ nb) where
  -- with a panel in front the tail rows go through it first
  panel-first : (kb ke : ℕ) (s t : State) (b : Mat) → PivotsInside ke t.pivots → ke ≤ ncol → head_of ncol t.a ≡ head_of ncol b → Kept ke s t → (r : Run)
      → finished nrow ncol (whole_next nrow ncol kb ke t).a r ≡ finished nrow ncol s.a (with_panel (closed kb ke (with_head t b)) r)
  unfolding tail_row_of
  panel-first kb ke s t b w hk e p (refused why) = refl
  panel-first kb ke s t b w hk e p (done z ps) =
      let q = closed kb ke (with_head t b) in
      ap (λ (m : Mat). stood (cut_state ncol z) m)
      (tail-rows-alike nrow ncol (tail_row_of ncol ps) (tail_row_of ncol (q ∷ ps)) (whole_next nrow ncol kb ke t).a s.a
      (λ i x y. ap (λ (r : Row). tail_row_of ncol ps r)
      (tail-passed nrow ncol kb ke t b w hk hn e i x y ∙ ap (λ (r : Row). row_after_panel q ncol (row_of ncol r)) (fun_ext λ j. p i j (inr (omega arith))))))

  -- what two runs over n panels from kb on have in common
  abbrev Alike : ℕ → ℕ → Type 0
  Alike n kb = (s u : State) → cut_state ncol s ≡ cut_state ncol u → PivotsInside (kb + 1) s.pivots
      → cut_run nrow ncol (whole_panels_of how nrow ncol nb n kb s) ≡ finished nrow ncol s.a (panels_of how ncol nb n kb u)

  panel-then : (n kb ke : ℕ) → Alike n ke → ke ≤ ncol → (s t u : State) → cut_state ncol t ≡ cut_state ncol u → PivotsInside ke t.pivots → Kept ke s t
      → cut_run nrow ncol (whole_panels_of how nrow ncol nb n ke (whole_next nrow ncol kb ke t))
      ≡ finished nrow ncol s.a (with_panel (closed kb ke u) (panels_of how ncol nb n ke (head_next kb ke u)))
  unfolding whole_passed
  panel-then n kb ke rest hk s t u e w p =
      let h = head-of ncol t u e in
      let v = with_head t u.a in
      subst (λ (x : State). cut_run nrow ncol (whole_panels_of how nrow ncol nb n ke (whole_next nrow ncol kb ke t))
      ≡ finished nrow ncol s.a (with_panel (closed kb ke x) (panels_of how ncol nb n ke (head_next kb ke x)))) (only-head ncol t u e)
      (rest (whole_next nrow ncol kb ke t) (head_next kb ke v) (state-passed nrow ncol kb ke t u.a w hk hn h)
      (inside-more ke (ke + 1) _ _ (omega arith) w)
      ∙ panel-first kb ke s t u.a w hk h p (panels_of how ncol nb n ke (head_next kb ke v)))

  pub run-alike : (n kb : ℕ) → Alike n kb
  unfolding whole_panels_of panels_of tail_row_of
  run-alike zero kb s u e w = ap (λ (z : State). stood z (tail_rows nrow ncol (λ r. r) s.a)) e
  run-alike (suc n) kb s u e w =
      let ke = min (kb + nb) ncol in
      test (ltb kb ncol)
      (λ t. let h : kb < ncol = ltb-true kb ncol t in
      rw t (continued-alike nrow ncol s.a (λ z. PivotsInside ke z.pivots) (Kept ke s)
      (λ z. whole_panels_of how nrow ncol nb n ke (whole_next nrow ncol kb ke z))
      (λ z. with_panel (closed kb ke z) (panels_of how ncol nb n ke (head_next kb ke z)))
      (panel-then n kb ke (run-alike n ke) (omega arith) s) (panel_of ke how (ke - kb) kb s) (panel_of ke how (ke - kb) kb u)
      (sym (panel-masked ncol ke how (ke - kb) kb s (omega arith)) ∙ ap (λ (z : State). panel_of ke how (ke - kb) kb z) e
      ∙ panel-masked ncol ke how (ke - kb) kb u (omega arith))
      (panel-inside ke how (ke - kb) kb s (inside-more (kb + 1) ke _ _ (omega arith) w))
      (panel-keeps ke how (ke - kb) kb s)))
      (λ t. rw t (ap (λ (z : State). stood z (tail_rows nrow ncol (λ r. r) s.a)) e))

  -- the run of the head, as the state before it shows it
  pub run-masked : (n kb : ℕ) (s : State) → PivotsInside (kb + 1) s.pivots
      → cut_run nrow ncol (whole_panels_of how nrow ncol nb n kb s) ≡ finished nrow ncol s.a (panels_of how ncol nb n kb (cut_state ncol s))
  run-masked n kb s w = run-alike n kb s (cut_state ncol s) (sym (cut_twice ncol s)) w

-- ---- the whole call

start-masked : (ncol : ℕ) (a : Mat) → cut_state ncol (start ncol a) ≡ start ncol (head_of ncol a)
unfolding cut_state start
start-masked ncol a = refl

pub head-run : (how : Pivoting) (nrow ncol nb : ℕ) (a : Mat) → ncol ≤ nrow → 1 ≤ nb
    → cut_run nrow ncol (whole_panels_of how nrow ncol (min nb (max ncol 1)) ncol 0 (start ncol a)) ≡ finished nrow ncol a (head_run_of how ncol nb a)
unfolding head_run_of start
head-run how nrow ncol nb a hn hb =
    run-masked how nrow ncol (min nb (max ncol 1)) hn (omega arith) ncol 0 (start ncol a) (start-inside ncol a)
    ∙ ap (λ (s : State). finished nrow ncol a (panels_of how ncol (min nb (max ncol 1)) ncol 0 s)) (start-masked ncol a)
