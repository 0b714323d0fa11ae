-- What the functions ask of their callers, and what they promise beside their equations. Definitions only. Assumes nothing.
use Rattle.std.specs.Prelude.{◌≡◌, ℕ, ◌+◌, ◌*◌, ◌<◌, ◌≤◌, length, Ok, Err}
use Rattle.model.specs.Sizes.{most_rounds}
use Rattle.model.specs.Step.{Pivots}
use Rattle.model.specs.Kept.{Starts, Recorded}
use Rattle.model.specs.declared.PivotRecord.{PivotRecord}
use Rattle.bunch_kaufman.specs.Answers.{Ran}

-- ---- what is promised

-- of the record, with the columns before k done in a panel that ends at ke: every block and every partner stands before ke, and no exchange goes back
pub record NotedTo (k ke rounds : ℕ) (p : Pivots) : Type 0 where
  pub few : rounds ≤ most_rounds * k
  pub pair : (c : ℕ) → p.diagonals.blocks c ≡ 1 → c + 1 < ke
  pub partner : (c : ℕ) → p.partners c < ke
  pub recorded : Recorded k p.diagonals.blocks p.partners

-- of the record after the steps of columns kb to ke: a pivot began at kb
pub record PanelNoted (kb ke rounds : ℕ) (p : Pivots) : Type 0 where
  pub noted : NotedTo ke ke rounds p
  pub start : Starts p.diagonals.blocks kb

-- of the answer and the record after a panel's steps
abbrev pub RanTo : ℕ → ℕ → Ran → Pivots → Type 0
RanTo kb ke (Err r) p = Unit {0}
RanTo kb ke (Ok rounds) p = PanelNoted kb ke rounds p

-- ---- what callers owe

-- the columns before ke are there in each buffer of the record
pub record NotesPre (ke : ℕ) (r : PivotRecord) : Type 0 where
  pub d : ke ≤ length r.d.now
  pub sub : ke ≤ length r.sub.now
  pub blocks : ke ≤ length r.blocks.now
  pub partners : ke ≤ length r.partners.now
  pub lifts : ke ≤ length r.lifts.now
  pub amounts : ke ≤ length r.amounts.now
  pub tests : ke ≤ length r.tests.now
  pub order : ke ≤ length r.order.now
