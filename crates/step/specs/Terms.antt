-- What a step asks of its callers, and what it promises beside its equations. Definitions only. Assumes nothing.
use Rattle.std.specs.Prelude.{◌≡◌, ℕ, ◌+◌, ◌*◌, ◌<◌, ◌≤◌, Ok, Err}
use Rattle.model.specs.Sizes.{most_columns, most_rounds}
use Rattle.model.specs.Step.{is_block}
use Rattle.model.specs.Head.{last_of}
use Rattle.model.specs.declared.Frame.{Frame}
use Rattle.model.specs.declared.Mode.{Mode}
use Rattle.model.specs.declared.Mode.TheVariants.{Fail, Lift}
use Rattle.model.specs.declared.Pivot.{Pivot}
use Rattle.step.specs.Answers.{Taken}

-- ---- what is promised

-- a pivot's last column and its row stand within the panel; its rounds are few
pub record PivotIn (ke k : ℕ) (v : Pivot) : Type 0 where
  pub last : last_of k (is_block v.diagonal) < ke
  pub row : v.chosen.kp.0 < ke
  pub first : v.chosen.p.0 < ke
  pub few : v.rounds ≤ most_rounds

-- of a step's answer
abbrev pub TakenIn : ℕ → ℕ → Taken → Type 0
TakenIn ke k (Err r) = Unit {0}
TakenIn ke k (Ok v) = PivotIn ke k v

-- ---- what callers owe

-- Lift's round limit is most_rounds at most; Fail's is never looked at
abbrev pub LimitPre : Mode → ℕ → Type 0
LimitPre Fail limit = Unit {0}
LimitPre (Lift floor) limit = limit ≤ most_rounds

-- columns kb to ke of a panel of ncol columns and nrow rows, with their multipliers in a square of nb
pub record PanelPre (at : Frame) (len len_m : ℕ) : Type 0 where
  pub panel : len ≡ at.nrow * at.ncol
  pub mult : len_m ≡ at.nb * at.nb
  pub rows : at.ncol ≤ at.nrow
  pub cols : at.ke ≤ at.ncol
  pub size : at.ncol ≤ most_columns
  pub here : at.kb ≤ at.ke
  pub width : at.ke ≤ at.kb + at.nb

-- a pivot's columns k to e
pub record StepPre (at : Frame) (k e len len_m : ℕ) : Type 0 where
  pub sizes : PanelPre at len len_m
  pub from : at.kb ≤ k
  pub last : e < at.ke

-- and the row kp that is exchanged with e
pub record PivotPre (at : Frame) (k e kp len len_m : ℕ) : Type 0 where
  pub step : StepPre at k e len len_m
  pub from : e ≤ kp
  pub row : kp < at.ke

-- a block's columns k and k + 1
pub record BlockPre (nrow ncol k len : ℕ) : Type 0 where
  pub panel : len ≡ nrow * ncol
  pub rows : ncol ≤ nrow
  pub last : k + 1 < ncol
