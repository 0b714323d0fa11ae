-- Laws of a result that is judged: what is asked, and its two outcomes by their parts. Assumes nothing.
use mathlib.Core.Path.{◌≡◌}
use mathlib.Core.List.{List}
use Prim.Native.Nat.{ℕ}
use native.Mathlib.Omega.{arith}
use lib.ListN.{length, replicate}
use lib.Ieee.{Float}
use Rattle.model.specs.Scalar.{zero_f}
use Rattle.model.specs.Matrix.{view, vec, naturals}
use Rattle.model.specs.Step.{diagonals_of}
use Rattle.model.specs.Inertia.{tallied_of}
use Rattle.model.specs.Factor.{Buffers, result_check, zeros}
use Rattle.std.specs.Prelude.{Ok, Err}
use Rattle.model.specs.Answer.{Check}
use Rattle.model.specs.declared.Tally.{Tally}
use Rattle.model.specs.declared.Refusal.{Refusal}
use Rattle.scan.specs.Marks.{tail_marks}
use Rattle.model.proofs.Bytes.{bytes-paired}
use Rattle.buffers.specs.Buffers.{buffers_of}
use Rattle.soundness.specs.Result.{ResultPre}
use Rattle.judge.specs.Judge.{outcome_of, judge_of, JudgePre}

-- what the look at the result asks
pub result-pre : (nrow ncol lp ld ls lm : ℕ) (blocks : List ℕ) → JudgePre nrow ncol lp ld ls lm blocks → ResultPre ncol ld ls blocks
result-pre nrow ncol lp ld ls lm blocks w = record {
  d = w.d;
  pivots = record {
    sub = w.sub;
    blocks = w.bytes;
    room = λ k h e. omega (arith, w.bytes, (bytes-paired blocks w.check).room k (omega (arith, w.bytes)) e);
  };
}

-- b are the buffers at the entry; panel, rows and columns those that were summed; found is what the look at the result answers
module _ (nrow ncol rounds : ℕ) (b : Buffers) (panel : List Float) (rows columns : ℕ) (same : panel ≡ b.panel) (sizes : (columns ≡ ncol) × (rows ≡ nrow))
    (found : Check) (h : found ≡ result_check columns (diagonals_of b.d b.sub b.blocks) (view rows panel) columns 0) where
  judged-by : found ≡ result_check ncol (diagonals_of b.d b.sub b.blocks) (view nrow b.panel) ncol 0
  judged-by = rw (same, sizes.0, sizes.1) at h

  pub judge-refused : (r : Refusal) (z : Buffers) → found ≡ Err r → z ≡ zeros b → outcome_of (Err r) z ≡ judge_of nrow ncol rounds b
  unfolding judge_of
  judge-refused r z e ez = rw (← judged-by, e, ez)

  pub judge-accepted : (marks : List ℕ) (work : List Float) (t : Tally) → found ≡ Ok tt → marks ≡ tail_marks (view rows panel) columns rows columns
      → work ≡ replicate (length b.work) zero_f → t ≡ tallied_of (length b.d) (vec b.d) (vec b.sub) (naturals b.blocks)
      → outcome_of (Ok (record { rounds = rounds; inertia = t })) (buffers_of b.panel b.d b.sub b.blocks b.lifts b.amounts b.tests b.order marks work)
      ≡ judge_of nrow ncol rounds b
  unfolding judge_of
  judge-accepted marks work t e em ew et =
      let marked : marks ≡ tail_marks (view nrow b.panel) ncol nrow ncol = rw (same, sizes.0, sizes.1) at em in
      rw (← judged-by, e, marked, ew, et)
