-- One pivot of a panel, or two one after the other, on the rows below it. From docs/SCOPE.md, "The rows below a panel"; a reader need not believe these
-- names: the contracts of below_step and below_pair cite the model's steps. Rows count from the first row below the panel, columns from the first pivot.
-- Definitions only. Assumes nothing.
use Rattle.std.specs.Prelude.{ℕ, ◌+◌, ◌<◌, ◌≤◌, Bool}
use Rattle.model.specs.Scalar.{reciprocal_of}
use Rattle.model.specs.Matrix.{Row, Mat, with_column}
use Rattle.model.specs.Step.{Step, one, two, is_block, row_after_step}
use Rattle.model.specs.Head.{last_of}
use Rattle.model.specs.declared.Diagonal.{Diagonal}
use Rattle.model.specs.declared.Diagonal.TheVariants.{One, Two}
use Rattle.kernels.specs.Rules.{times, combined}
use Rattle.grid.specs.Rules.{column_of}
use Rattle.swept.specs.Swept.{PartPre}
use Rattle.swept.specs.declared.Part.{Part}
use Rattle.swept.specs.declared.Pair.{Pair}
use Rattle.pairs.specs.declared.Taken.{Taken}

-- the step of the pivot x at k; of a 1x1 the second multipliers are not read
abbrev pub step_of : ℕ → ℕ → Diagonal → Row → Row → Step
step_of k kp (One d) m1 m2 = one k kp d m1
step_of k kp (Two b) m1 m2 = two k kp b m1 m2

-- two pivots as they were taken, in column 0 and in columns l to f
abbrev pub pair_of : Part → ℕ → ℕ → Taken → Taken → Pair
pair_of at l f first second =
    record { at = at; block1 = is_block first.pivot; block2 = is_block second.pivot; l = l; f = f; kq = second.row }

-- a row after both, the first first
unfoldable pub row_after_both : ℕ → Step → Step → Row → Row
row_after_both columns first second r = row_after_step columns second (row_after_step columns first r)

-- the own columns of a pivot at k become the multipliers of those rows
unfoldable pub own_by : Mat → ℕ → ℕ → ℕ → Diagonal → Mat
own_by M k lo hi (One d) = with_column M k lo hi (times (column_of M k) (reciprocal_of d))
own_by M k lo hi (Two b) =
    with_column (with_column M k lo hi (combined (column_of M k) (column_of M (k + 1)) b.d22 b.d21 (reciprocal_of b.det))) (k + 1) lo hi
    (combined (column_of M (k + 1)) (column_of M k) b.d11 b.d21 (reciprocal_of b.det))

-- ---- what the functions ask

-- columns c up to e past a pivot at column 0; columns f and kq were exchanged
pub record SweepPre (block : Bool) (at : Part) (c e f kq len len_m : ℕ) : Type 0 where
  pub frame : PartPre at len len_m
  pub past : last_of 0 block < c
  pub up : c ≤ e
  pub end : e ≤ at.columns
  pub one : f < at.columns
  pub other : kq < at.columns

-- a pivot at column 0, which exchanged its last column with kp
pub record StepPre (block : Bool) (at : Part) (kp len len_m : ℕ) : Type 0 where
  pub frame : PartPre at len len_m
  pub here : last_of 0 block < at.columns
  pub row : kp < at.columns
