-- What the own diagonal's test asks, by its magnitude `own` and its column's greatest square. Definitions only. Assumes nothing.
use Rattle.std.specs.Prelude.{◌≡◌, true, false, Float}
use Rattle.std.specs.Float.Ieee.{le, eq}
use Rattle.model.specs.Scalar.{◌⊗◌, zero_f, magnitude_of, maximum_of}
use Rattle.model.specs.Root.{sqrt_of, alpha}

-- the column is not zero, and the diagonal reaches the threshold beside the root: `choose_of` takes its own diagonal
pub record Reaches (own square : Float) : Type 0 where
  pub nonzero : eq (maximum_of own (sqrt_of square)) zero_f ≡ false
  pub taken : le (alpha ⊗ sqrt_of square) own ≡ true

-- neither has a sign; either may be infinite or a not-a-number
pub record ReachPre (own square : Float) : Type 0 where
  pub diagonal : magnitude_of own ≡ own
  pub column : magnitude_of square ≡ square
