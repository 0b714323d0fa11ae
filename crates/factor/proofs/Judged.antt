-- From the elimination to the factor call's outcome: a refusal of the run, a refusal of the result, or the factor. Assumes nothing.
use mathlib.Core.Path.{◌≡◌, refl, sym, ◌∙◌, ap, subst}
use mathlib.Core.List.{List}
use Prim.Native.Nat.{ℕ}
use native.Mathlib.Omega.{arith}
use lib.ListN.{length, replicate}
use lib.Ieee.{Float}
use Rattle.model.specs.Scalar.{zero_f}
use Rattle.model.specs.Matrix.{view, vec, naturals}
use Rattle.model.specs.Step.{Pivots, pivots_of}
use Rattle.model.specs.Head.{State, Run}
use Rattle.model.specs.Inertia.{tallied_of, bytes_from, check_bytes}
use Rattle.model.specs.Factor.{pivoting_of, Buffers, lent_in, SameLent, result_check, entry_check, zeros, factor_of}
use Rattle.model.specs.declared.LentBuffers.{LentBuffers}
use Rattle.model.specs.Answer.{Check}
use Rattle.model.specs.declared.Settings.{Settings}
use Rattle.model.specs.declared.Refusal.{Refusal}
use Rattle.std.specs.Prelude.{Ok, Err}
use Rattle.model.proofs.Entry.{Passed, passed}
use Rattle.model.proofs.Bytes.{bytes-sound}
use Rattle.model.proofs.Accepted.{AtEnd, Kept, head-kept}
use Rattle.whole.specs.Whole.{ended}
use Rattle.whole.proofs.Result.{Reached, run-ended, reached-pivots}
use Rattle.scan.specs.Marks.{tail_marks}
use Rattle.buffers.proofs.Buffers.{zeros-same}
use Rattle.panels.specs.Turn.{between}
use Rattle.judge.specs.Judge.{outcome_of, judged_by, judge_of, JudgePre}
use Rattle.factor.specs.Run.{Eliminated}
use Rattle.factor.proofs.Outcome.{whole_of, stopped-outcome, unsound-outcome, accepted-outcome}

-- ---- the call

-- the state that an elimination's buffers show, by the rounds
abbrev shown : ℕ → Buffers → List ℕ → ℕ → State
shown nrow a partners = between nrow a.panel (pivots_of a.d a.sub a.blocks partners a.lifts a.amounts a.tests a.order)

-- x the buffers as they were lent, y as the elimination left them
module _ (c : Settings) (input : List Float) (x : LentBuffers) (e : entry_check c input (lent_in x) ≡ Ok tt) where
  checked : Passed c input (lent_in x)
  checked = passed c input (lent_in x) e

  -- a refusal of the run, with the outputs zeroed
  pub stopped_call : (y : LentBuffers) (z : Buffers) (f : Refusal) → Eliminated c input (Err f) (lent_in y) → SameLent x y
      → z ≡ zeros (lent_in y) → outcome_of (Err f) z ≡ factor_of c input (lent_in x)
  stopped_call y z f w l ez = rw (ez, zeros-same x y l) (stopped-outcome c input (lent_in x) e f w.run)

  module _ (y : LentBuffers) (rounds : ℕ) (w : Eliminated c input (Ok rounds) (lent_in y)) (l : SameLent x y) where
    abbrev a : Buffers
    a = lent_in y

    abbrev last : State
    last = shown c.nrow a w.partners rounds

    ends : ended last ≡ whole_of c input (lent_in x) e
    ends = w.run

    reach : Reached (pivoting_of c) c.nrow c.ncol c.nb (view c.nrow input) last
    reach = run-ended (pivoting_of c) c.nrow c.ncol c.nb (view c.nrow input) checked.head checked.some last (sym ends)

    -- its block bytes are well formed
    bytes-kept : check_bytes a.blocks ≡ Ok tt
    bytes-kept =
        let kept : Kept c.mode c.ncol c.ncol reach.state.pivots =
        subst (λ (g : Run). AtEnd c.mode c.ncol g) reach.run
        (head-kept (pivoting_of c) c.ncol c.nb (view c.nrow input) checked.some) in
        let same : last.pivots ≡ reach.state.pivots =
        reached-pivots (pivoting_of c) c.nrow c.ncol c.nb (view c.nrow input) last reach in
        let n : length a.blocks ≡ c.ncol = l.blocks.count ∙ checked.lengths.blocks in
        ap (λ (m : ℕ). bytes_from (naturals a.blocks) m m 0) n
        ∙ ap (λ (p : Pivots). bytes_from p.diagonals.blocks c.ncol c.ncol 0) same
        ∙ bytes-sound reach.state.pivots.diagonals.blocks c.ncol c.ncol 0 (omega arith) kept.recorded.paired

    pub judge-pre : JudgePre c.nrow c.ncol (length a.panel) (length a.d) (length a.sub) (length a.marks) a.blocks
    judge-pre = record {
      head = checked.head;
      panel = l.panel.count ∙ checked.lengths.panel;
      d = l.d.count ∙ checked.lengths.d;
      sub = l.sub.count ∙ checked.lengths.sub;
      bytes = l.blocks.count ∙ checked.lengths.blocks;
      marks = l.marks.count ∙ checked.lengths.marks;
      check = bytes-kept;
    }

    judged-call : (k : Check) → result_check c.ncol last.pivots.diagonals last.a c.ncol 0 ≡ k
        → judged_by k c.nrow c.ncol rounds a ≡ factor_of c input (lent_in x)
    unfolding tail_marks
    judged-call (Ok u) g =
        let len = checked.lengths in
        accepted-outcome c input (lent_in x) e a.panel a.d a.sub a.amounts (replicate (length a.work) zero_f) a.blocks a.lifts a.tests a.order
        (tail_marks (view c.nrow a.panel) c.ncol c.nrow c.ncol) w.partners rounds
        (tallied_of (length a.d) (vec a.d) (vec a.sub) (naturals a.blocks))
        ends g (l.panel.count ∙ len.panel) (l.d.count ∙ len.d) (l.sub.count ∙ len.sub) (l.amounts.count ∙ len.amounts)
        (l.blocks.count ∙ len.blocks) (l.lifts.count ∙ len.lifts) (l.tests.count ∙ len.tests) (l.order.count ∙ len.order)
        refl (ap (λ (n : ℕ). replicate n zero_f) l.work.count)
        (ap (λ (n : ℕ). tallied_of n (vec a.d) (vec a.sub) (naturals a.blocks)) (l.d.count ∙ len.d))
    judged-call (Err f) g = rw (zeros-same x y l) (unsound-outcome c input (lent_in x) e last ends f g)

    -- judged, it is the call's outcome
    pub judge-call : judge_of c.nrow c.ncol rounds a ≡ factor_of c input (lent_in x)
    unfolding judge_of
    judge-call = judged-call (result_check c.ncol last.pivots.diagonals last.a c.ncol 0) refl
