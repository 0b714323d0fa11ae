-- Rows by their columns from k on, two steps in turn, and what the tail asks. From docs/SCOPE.md, "The rows below a panel".
-- Definitions only. Assumes nothing.
use Rattle.std.specs.Prelude.{ℕ, ◌+◌, ◌-◌, ◌*◌, ◌<◌, ◌≤◌, ◌≡◌, length}
use Rattle.model.specs.Matrix.{Row, Mat, view, naturals}
use Rattle.model.specs.Step.{Diagonals, diagonals_in, first_of, past_of, row_stepped, row_after_steps}
use Rattle.model.specs.Kept.{Starts, Ahead, Recorded}
use Rattle.model.specs.declared.Frame.{Frame}
use Rattle.eliminate.specs.Eliminate.{in_panel}
use Rattle.swept.specs.declared.Part.{Part}
use Rattle.tail.specs.declared.Steps.{Steps}

-- what f makes of a row, its columns counted from k on
unfoldable pub from_column : ℕ → (Row → Row) → Row → Row
from_column k f r = λ j. f (λ c. r (c - k)) (k + j)

-- a row after the step at k and after the one at l
unfoldable pub row_stepped_twice : Diagonals → (partners : ℕ → ℕ) → Mat → ℕ → ℕ → ℕ → Row → Row
row_stepped_twice D partners mult ke k l r = row_stepped D partners mult ke l (row_stepped D partners mult ke k r)

-- ---- what a panel's steps are read from

abbrev pub blocks_in : Steps → ℕ → ℕ
blocks_in s = naturals s.diagonal.blocks.now

abbrev pub partners_in : Steps → ℕ → ℕ
partners_in s = naturals s.partners.now

-- a row after the step at k; after the steps at k and at l; after all steps from k on
abbrev pub step_in : Frame → Steps → ℕ → Row → Row
step_in at s k = row_stepped (diagonals_in s.diagonal) (partners_in s) (in_panel at.kb at.ke (view at.nb s.mult.now)) at.ke k

abbrev pub both_steps_in : Frame → Steps → ℕ → ℕ → Row → Row
both_steps_in at s k l = row_stepped_twice (diagonals_in s.diagonal) (partners_in s) (in_panel at.kb at.ke (view at.nb s.mult.now)) at.ke k l

abbrev pub steps_left_in : Frame → Steps → ℕ → Row → Row
steps_left_in at s k = row_after_steps (diagonals_in s.diagonal) (partners_in s) (in_panel at.kb at.ke (view at.nb s.mult.now)) at.ke (at.ke - k) k

-- the panel's rows from ke down, from column k on
abbrev pub part_from : Frame → ℕ → Part
part_from at k = record { nrow = at.nrow; rows = at.nrow - at.ke; nb = at.nb; columns = at.ke - k }

-- ---- what the functions ask

-- the sizes: the panel, the multipliers' buffer, the four arrays by column
pub record TailPre (nrow ncol nb kb ke len len_m ld ls lb lp : ℕ) : Type 0 where
  pub size : len ≡ nrow * ncol
  pub square : len_m ≡ nb * nb
  pub head : ncol ≤ nrow
  pub cols : ke ≤ ncol
  pub width : ke ≤ kb + nb
  pub in_d : ke ≤ ld
  pub in_sub : ke ≤ ls
  pub in_blocks : ke ≤ lb
  pub in_partners : ke ≤ lp

abbrev pub sizes_in : Frame → ℕ → Steps → Type 0
sizes_in at len s =
    TailPre at.nrow at.ncol at.nb at.kb at.ke len (length s.mult.now) (length s.diagonal.d.now) (length s.diagonal.sub.now) (length s.diagonal.blocks.now)
    (length s.partners.now)

-- every block that begins before ke ends before ke, and every partner stands before ke; a pivot begins at kb, and no exchange goes back
pub record StepsPre (kb ke : ℕ) (blocks partners : ℕ → ℕ) : Type 0 where
  pub pair : (k : ℕ) → k < ke → blocks k ≡ 1 → k + 1 < ke
  pub partner : (k : ℕ) → k < ke → partners k < ke
  pub recorded : Recorded ke blocks partners
  pub start : Starts blocks kb

-- the same for the step at k alone
pub record HerePre (ke : ℕ) (blocks partners : ℕ → ℕ) (k : ℕ) : Type 0 where
  pub pair : blocks k ≡ 1 → k + 1 < ke
  pub partner : partners k < ke
  pub first : first_of blocks partners k < ke
  pub ahead : Ahead blocks partners k

-- a step begins at k, among the columns from kb to ke
pub record BeginsPre (kb ke : ℕ) (blocks : ℕ → ℕ) (k : ℕ) : Type 0 where
  pub from : kb ≤ k
  pub inside : k < ke
  pub starts : Starts blocks k

-- the steps at k and, right after it, at l, which makes no exchange before its own
pub record BothPre (ke : ℕ) (blocks partners : ℕ → ℕ) (k l : ℕ) : Type 0 where
  pub first : HerePre ke blocks partners k
  pub second : HerePre ke blocks partners l
  pub next : l ≡ past_of blocks k
  pub inside : l < ke
  pub stays : first_of blocks partners l ≡ l

-- what is lent to the steps from k on: the rows from ke down of the panel's columns
pub record LentPre (nrow ke k len : ℕ) : Type 0 where
  pub height : ke ≤ nrow
  pub here : k < ke
  pub room : nrow - ke + (ke - k - 1) * nrow ≤ len

-- and read by them
pub record ReadPre (nb kb ke k len_m ld ls lb lp : ℕ) : Type 0 where
  pub square : len_m ≡ nb * nb
  pub width : ke ≤ kb + nb
  pub from : kb ≤ k
  pub in_d : ke ≤ ld
  pub in_sub : ke ≤ ls
  pub in_blocks : ke ≤ lb
  pub in_partners : ke ≤ lp

abbrev pub read_in : Frame → ℕ → Steps → Type 0
read_in at k s =
    ReadPre at.nb at.kb at.ke k (length s.mult.now) (length s.diagonal.d.now) (length s.diagonal.sub.now) (length s.diagonal.blocks.now)
    (length s.partners.now)
