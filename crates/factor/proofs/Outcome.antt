-- From the run over the whole panel to what the factor call leaves: refused with zeros, or the factor. Assumes nothing.
use mathlib.Core.Path.{◌≡◌, refl, sym, ◌∙◌, ap}
use mathlib.Core.List.{List, [], ◌∷◌}
use Prim.Native.Nat.{ℕ, zero, suc, ◌+◌, ◌-◌, ◌*◌, ◌<◌, min, max}
use native.Mathlib.Omega.{arith}
use lib.ListN.{length, get_or, replicate}
use lib.Ieee.{Float, nan}
use Rattle.model.specs.Scalar.{zero_f}
use Rattle.model.specs.Matrix.{Row, Mat, view, vec, naturals, places, tabulate, column_major}
use Rattle.model.specs.Step.{diagonals_of, Pivots, pivots_of}
use Rattle.model.specs.Head.{State}
use Rattle.model.specs.Inertia.{tallied_of}
use Rattle.model.specs.Factor.{pivoting_of, Buffers, start, entry_check, result_check, HeadAnswer, fails, stands, head_answer_of}
use Rattle.model.specs.Factor.{factor_row_of, mark_of, factor_entry, Outcome, zeros, report_of, after_head, factor_of}
use Rattle.model.specs.Answer.{accepted, turned_away}
use Rattle.model.specs.declared.Settings.{Settings}
use Rattle.model.specs.declared.Tally.{Tally}
use Rattle.model.specs.declared.Refusal.{Refusal}
use Rattle.std.specs.Prelude.{Ok, Err}
use Rattle.model.proofs.Tabulated.{length-tabulate_from, get_d_tabulate, is-tabulate, is-column_major}
use Rattle.model.proofs.Entry.{Passed, passed, past-entry}
use Rattle.whole.specs.Whole.{WholeRun, stopped_by, ended, whole_panels_of}
use Rattle.whole.proofs.Result.{Reached, run-stopped, run-ended, reached-answer, reached-entry, reached-mark, reached-pivots, reached-rounds}
use Rattle.buffers.specs.Buffers.{buffers_of}
use Rattle.panels.specs.Turn.{between}

-- ---- lists from what they show

vec-tabulate : (n : ℕ) (xs : List Float) (f : Row) → length xs ≡ n → vec xs ≡ f → xs ≡ tabulate n f
unfolding vec
vec-tabulate n xs f l e = is-tabulate n f nan xs l (λ k h. ap (λ (g : Row). g k) e)

bytes-tabulate : (n : ℕ) (xs : List ℕ) (f : ℕ → ℕ) → length xs ≡ n → naturals xs ≡ f → xs ≡ tabulate n f
unfolding naturals
bytes-tabulate n xs f l e = is-tabulate n f 0 xs l (λ k h. ap (λ (g : ℕ → ℕ). g k) e)

-- within the list its default plays no part
get_d_any : (xs : List ℕ) (k a b : ℕ) → k < length xs → get_or xs k a ≡ get_or xs k b
get_d_any [] k a b h = absurd (omega arith)
get_d_any (x ∷ xs) zero a b h = refl
get_d_any (x ∷ xs) (suc k) a b h = get_d_any xs k a b (omega arith)

places-tabulate : (n : ℕ) (xs : List ℕ) (f : ℕ → ℕ) → length xs ≡ n → places xs ≡ f → xs ≡ tabulate n f
unfolding places
places-tabulate n xs f l e = is-tabulate n f 0 xs l (λ k h. get_d_any xs k 0 k (omega arith) ∙ ap (λ (g : ℕ → ℕ). g k) e)

-- two tables of the same places
tabulate-same : (n : ℕ) (f g : ℕ → ℕ) → ((k : ℕ) → k < n → f k ≡ g k) → tabulate n f ≡ tabulate n g
tabulate-same n f g h = is-tabulate n g 0 (tabulate n f) (length-tabulate_from 0 n f) (λ k l. get_d_tabulate n k f 0 l ∙ h k l)

-- an accepted outcome by its parts
abbrev accepted_with : ℕ → Tally → Buffers → Outcome
accepted_with rounds tally b = record { answer = accepted (record { rounds = rounds; inertia = tally }); buffers = b }

outcome-same : (r r' : ℕ) (t t' : Tally) (p p' d d' s s' a a' w w' : List Float) (b b' l l' n n' o o' m m' : List ℕ)
    → r ≡ r' → t ≡ t' → p ≡ p' → d ≡ d' → s ≡ s' → b ≡ b' → l ≡ l' → a ≡ a' → n ≡ n' → o ≡ o' → m ≡ m' → w ≡ w'
    → accepted_with r t (buffers_of p d s b l a n o m w) ≡ accepted_with r' t' (buffers_of p' d' s' b' l' a' n' o' m' w')
outcome-same r r' t t' p p' d d' s s' a a' w w' b b' l l' n n' o o' m m' er et ep ed es eb el ea en eo em ew =
    rw (er, et, ep, ed, es, eb, el, ea, en, eo, em, ew)

-- ---- the call past the entry checks

module _ (c : Settings) (input : List Float) (b : Buffers) (e : entry_check c input b ≡ Ok tt) where
  abbrev given : Mat
  given = view c.nrow input

  -- the run that the loop over panels makes
  abbrev pub whole_of : WholeRun
  whole_of = whole_panels_of (pivoting_of c) c.nrow c.ncol (min c.nb (max c.ncol 1)) c.ncol 0 (start c.ncol given)

  checked : Passed c input b
  checked = passed c input b e

  by-head : (h : HeadAnswer) → head_answer_of (pivoting_of c) c.ncol c.nb given ≡ h → factor_of c input b ≡ after_head h c given b
  by-head h w = past-entry c input b e ∙ ap (λ (x : HeadAnswer). after_head x c given b) w

  -- refused by a step
  pub stopped-outcome : (r : Refusal) → stopped_by r ≡ whole_of → record { answer = turned_away r; buffers = zeros b } ≡ factor_of c input b
  stopped-outcome r s =
      sym (by-head (fails r) (run-stopped (pivoting_of c) c.nrow c.ncol c.nb given checked.head checked.some r (sym s)))

  module _ (t : State) (s : ended t ≡ whole_of) where
    reached : Reached (pivoting_of c) c.nrow c.ncol c.nb given t
    reached = run-ended (pivoting_of c) c.nrow c.ncol c.nb given checked.head checked.some t (sym s)

    -- refused after the last column
    pub unsound-outcome : (r : Refusal) → result_check c.ncol t.pivots.diagonals t.a c.ncol 0 ≡ Err r
        → record { answer = turned_away r; buffers = zeros b } ≡ factor_of c input b
    unsound-outcome r h =
        sym (by-head (fails r) (reached-answer (pivoting_of c) c.nrow c.ncol c.nb given t reached ∙ rw h))

    stands-answer : result_check c.ncol t.pivots.diagonals t.a c.ncol 0 ≡ Ok tt
        → head_answer_of (pivoting_of c) c.ncol c.nb given ≡ stands reached.state reached.panels
    stands-answer h = reached-answer (pivoting_of c) c.nrow c.ncol c.nb given t reached ∙ rw h

  -- accepted
  pub accepted-outcome : (panel d sub amounts work : List Float) (blocks lifts tests order marks partners : List ℕ) (rounds : ℕ) (tally : Tally)
      → ended (between c.nrow panel (pivots_of d sub blocks partners lifts amounts tests order) rounds) ≡ whole_of
      → result_check c.ncol (diagonals_of d sub blocks) (view c.nrow panel) c.ncol 0 ≡ Ok tt
      → length panel ≡ c.nrow * c.ncol → length d ≡ c.ncol → length sub ≡ c.ncol → length amounts ≡ c.ncol
      → length blocks ≡ c.ncol → length lifts ≡ c.ncol → length tests ≡ c.ncol → length order ≡ c.nrow
      → marks ≡ tabulate (c.nrow - c.ncol) (λ i. mark_of c.ncol (view c.nrow panel (c.ncol + i)))
      → work ≡ replicate (length b.work) zero_f → tally ≡ tallied_of c.ncol (vec d) (vec sub) (naturals blocks)
      → accepted_with rounds tally (buffers_of panel d sub blocks lifts amounts tests order marks work) ≡ factor_of c input b
  accepted-outcome panel d sub amounts work blocks lifts tests order marks partners rounds tally s h lp ld ls la lb ll ln lo em ew et =
      let t = between c.nrow panel (pivots_of d sub blocks partners lifts amounts tests order) rounds in
      let w = reached t s in
      let v : Pivots = w.state.pivots in
      let p : t.pivots ≡ v = reached-pivots (pivoting_of c) c.nrow c.ncol c.nb given t w in
      let entries : Mat = factor_entry c.ncol w.state w.panels given in
      outcome-same rounds w.state.rounds tally (report_of c.ncol w.state).inertia
      panel (column_major c.nrow c.ncol entries)
      d (tabulate c.ncol v.diagonals.d) sub (tabulate c.ncol v.diagonals.sub) amounts (tabulate c.ncol v.notes.amounts)
      work (replicate (length b.work) zero_f)
      blocks (tabulate c.ncol v.diagonals.blocks) lifts (tabulate c.ncol v.notes.lifts)
      tests (tabulate c.ncol v.notes.tests) order (tabulate c.nrow v.notes.order)
      marks (tabulate (c.nrow - c.ncol) (λ i. mark_of c.ncol (factor_row_of c.ncol w.panels (given (c.ncol + i)))))
      (reached-rounds (pivoting_of c) c.nrow c.ncol c.nb given t w)
      (et ∙ ap (λ (q : Pivots). tallied_of c.ncol q.diagonals.d q.diagonals.sub q.diagonals.blocks) p)
      (is-column_major c.nrow c.ncol entries panel lp (reached-entry (pivoting_of c) c.nrow c.ncol c.nb given t w))
      (vec-tabulate c.ncol d v.diagonals.d ld (ap (λ (q : Pivots). q.diagonals.d) p))
      (vec-tabulate c.ncol sub v.diagonals.sub ls (ap (λ (q : Pivots). q.diagonals.sub) p))
      (bytes-tabulate c.ncol blocks v.diagonals.blocks lb (ap (λ (q : Pivots). q.diagonals.blocks) p))
      (bytes-tabulate c.ncol lifts v.notes.lifts ll (ap (λ (q : Pivots). q.notes.lifts) p))
      (vec-tabulate c.ncol amounts v.notes.amounts la (ap (λ (q : Pivots). q.notes.amounts) p))
      (bytes-tabulate c.ncol tests v.notes.tests ln (ap (λ (q : Pivots). q.notes.tests) p))
      (places-tabulate c.nrow order v.notes.order lo (ap (λ (q : Pivots). q.notes.order) p))
      (em ∙ tabulate-same (c.nrow - c.ncol) _ _
      (λ i l. reached-mark (pivoting_of c) c.nrow c.ncol c.nb given t w (c.ncol + i) (omega arith) (omega arith)))
      ew
      ∙ sym (by-head (stands w.state w.panels) (stands-answer t s h))
