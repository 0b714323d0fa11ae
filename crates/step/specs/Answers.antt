-- The cases of a step and its answer in the model's words. Definitions only. Assumes nothing.
use Rattle.std.specs.Prelude.{ℕ, Result, Ok, Err}
use Rattle.model.specs.Matrix.{Mat}
use Rattle.model.specs.Choice.{with_row}
use Rattle.model.specs.Head.{settled_one, Tried, refused_by, took, after_one, try_block}
use Rattle.model.specs.declared.Elim.{Elim}
use Rattle.model.specs.declared.Mode.{Mode}
use Rattle.model.specs.declared.Mode.TheVariants.{Fail, Lift}
use Rattle.model.specs.declared.Choice.{Choice}
use Rattle.model.specs.declared.Choice.TheVariants.{ZeroColumn, Single, Block}
use Rattle.model.specs.declared.Chosen.{Chosen}
use Rattle.model.specs.declared.PivotTest.TheVariants as by
use Rattle.model.specs.declared.Pivot.{Pivot}
use Rattle.model.specs.declared.Refusal.{Refusal}

-- ---- the cases of a step

-- what the mode makes of the choice at k: in Lift a zero column is a 1x1 from its own row
abbrev pub by_mode : Mode → Elim → Choice → Choice
by_mode Fail k c = c
by_mode (Lift floor) k ZeroColumn = Single (with_row by.ZeroColumn k.0 (record { 0 = k.0 }))
by_mode (Lift floor) k (Single c) = Single c
by_mode (Lift floor) k (Block c) = Block c

-- a 1x1 at k as chosen, its number from row kp
unfoldable pub single_of : ℕ → Mat → Mat → Mode → ℕ → Chosen → Tried
single_of ke a m mode k c = after_one ke a m k c (settled_one mode (a c.kp.0 c.kp.0))

-- a block at k and k + 1 as chosen, with row kp exchanged for k + 1, after p was exchanged for k (`try_block`, closed, so that a clause does not open it)
unfoldable pub two_of : ℕ → Mat → Mat → Mode → ℕ → ℕ → Chosen → Tried
two_of ke a m mode limit k c = try_block ke a m mode limit k c

-- ---- the answer

-- a refusal of the run, or the pivot that the step took
abbrev pub Taken : Type 0
Taken = Result Pivot Refusal

-- with the matrix and the multipliers that the step leaves
unfoldable pub tried : Taken → Mat → Mat → Tried
tried (Err r) a m = refused_by r
tried (Ok v) a m = took v a m
