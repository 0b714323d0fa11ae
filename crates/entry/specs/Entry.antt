-- What the factor call's test of its lengths asks of its caller. Definitions only. Assumes nothing.
use Rattle.std.specs.Prelude.{ℕ, ◌≤◌}
use Rattle.model.specs.Sizes.{most_rows, widest_panel}

-- sizes at which no stated length overflows
pub record LengthsPre (ncol nrow nb : ℕ) : Type 0 where
  pub rows : ncol ≤ nrow
  pub few_rows : nrow ≤ most_rows
  pub narrow : nb ≤ widest_panel
