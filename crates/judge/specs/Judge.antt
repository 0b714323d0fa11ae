-- After the last panel: refused with 9 and zeros, or accepted with marks, counts and a working buffer of +0.0. Definitions only. Assumes nothing.
use Rattle.std.specs.Prelude.{◌≡◌, List, ℕ, ◌-◌, ◌*◌, ◌≤◌, length, replicate, Ok, Err}
use Rattle.model.specs.Scalar.{zero_f}
use Rattle.model.specs.Matrix.{view, vec, naturals}
use Rattle.model.specs.Step.{diagonals_of}
use Rattle.model.specs.Inertia.{tallied_of, check_bytes}
use Rattle.model.specs.Factor.{Buffers, Outcome, result_check, zeros}
use Rattle.model.specs.Answer.{Check, Factored, accepted, turned_away, factored_says}
use Rattle.scan.specs.Marks.{tail_marks}

-- a call's answer with what it leaves
abbrev pub outcome_of : Factored → Buffers → Outcome
outcome_of r b = record { answer = factored_says r; buffers = b }

-- accepted: the numbers stand, the marks are set, the working buffer is cleared
abbrev pub accept_of : ℕ → ℕ → ℕ → Buffers → Outcome
accept_of nrow ncol rounds b = record {
  answer = accepted (record { rounds = rounds; inertia = tallied_of (length b.d) (vec b.d) (vec b.sub) (naturals b.blocks) });
  buffers = record {
    panel = b.panel;
    d = b.d;
    sub = b.sub;
    blocks = b.blocks;
    lifts = b.lifts;
    amounts = b.amounts;
    tests = b.tests;
    order = b.order;
    marks = tail_marks (view nrow b.panel) ncol nrow ncol;
    work = replicate (length b.work) zero_f;
  };
}

abbrev pub judged_by : Check → ℕ → ℕ → ℕ → Buffers → Outcome
judged_by (Ok u) nrow ncol rounds b = accept_of nrow ncol rounds b
judged_by (Err r) nrow ncol rounds b = record { answer = turned_away r; buffers = zeros b }

unfoldable pub judge_of : ℕ → ℕ → ℕ → Buffers → Outcome
judge_of nrow ncol rounds b =
    judged_by (result_check ncol (diagonals_of b.d b.sub b.blocks) (view nrow b.panel) ncol 0) nrow ncol rounds b

-- a result to be judged: the lengths, and block bytes that are well formed
pub record JudgePre (nrow ncol lp ld ls lm : ℕ) (blocks : List ℕ) : Type 0 where
  pub head : ncol ≤ nrow
  pub panel : lp ≡ nrow * ncol
  pub d : ld ≡ ncol
  pub sub : ls ≡ ncol
  pub bytes : length blocks ≡ ncol
  pub marks : lm ≡ nrow - ncol
  pub check : check_bytes blocks ≡ Ok tt
