-- What the functions ask of their callers, and a run's answer in the whole panel's words. Definitions only. Assumes nothing.
use Rattle.std.specs.Prelude.{◌≡◌, ℕ, ◌+◌, ◌*◌, ◌≤◌, ◌<◌, length, Ok, Err}
use Rattle.model.specs.Sizes.{most_columns, most_rows, widest_panel}
use Rattle.model.specs.Head.{State}
use Rattle.model.specs.Factor.{work_length}
use Rattle.model.specs.declared.Frame.{Frame}
use Rattle.model.specs.declared.Settings.{Settings}
use Rattle.model.specs.declared.DiagonalLists.{DiagonalLists}
use Rattle.model.specs.declared.PivotRecord.{PivotRecord}
use Rattle.whole.specs.Whole.{WholeRun, stopped_by, ended}
use Rattle.step.specs.Terms.{LimitPre}
use Rattle.bunch_kaufman.specs.Answers.{Ran}

-- the state that the run leaves, by its rounds
abbrev pub run_of : Ran → (ℕ → State) → WholeRun
run_of (Err r) s = stopped_by r
run_of (Ok rounds) s = ended (s rounds)

-- shape, width and limit past the entry checks; the width is the one that is used
pub record RunPre (c : Settings) (len len_w : ℕ) : Type 0 where
  pub panel : len ≡ c.nrow * c.ncol
  pub head : c.ncol ≤ c.nrow
  pub few_columns : c.ncol ≤ most_columns
  pub few_rows : c.nrow ≤ most_rows
  pub some : 1 ≤ c.nb
  pub narrow : c.nb ≤ widest_panel
  pub rounds : LimitPre c.mode c.limit
  pub work : work_length c.nrow c.nb ≤ len_w

-- a panel of a node, with its part of the working buffer
pub record TurnPre (at : Frame) (len len_w : ℕ) : Type 0 where
  pub panel : len ≡ at.nrow * at.ncol
  pub head : at.ncol ≤ at.nrow
  pub few_columns : at.ncol ≤ most_columns
  pub few_rows : at.nrow ≤ most_rows
  pub narrow : at.nb ≤ widest_panel
  pub here : at.kb < at.ke
  pub cols : at.ke ≤ at.ncol
  pub width : at.ke ≤ at.kb + at.nb
  pub work : work_length at.nrow at.nb ≤ len_w

-- the lists of D
pub record DiagonalsHold (ncol : ℕ) (x : DiagonalLists) : Type 0 where
  pub d : length x.d.now ≡ ncol
  pub sub : length x.sub.now ≡ ncol
  pub blocks : length x.blocks.now ≡ ncol

-- the buffers of the record of pivots
pub record TurnHolds (nrow ncol : ℕ) (r : PivotRecord) : Type 0 where
  pub d : length r.d.now ≡ ncol
  pub sub : length r.sub.now ≡ ncol
  pub blocks : length r.blocks.now ≡ ncol
  pub partners : length r.partners.now ≡ most_columns
  pub lifts : length r.lifts.now ≡ ncol
  pub amounts : length r.amounts.now ≡ ncol
  pub tests : length r.tests.now ≡ ncol
  pub order : length r.order.now ≡ nrow
