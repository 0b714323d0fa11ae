-- What the functions ask of their callers. Definitions only. Assumes nothing.
use Rattle.std.specs.Prelude.{◌≤◌}
use Rattle.model.specs.declared.Settings.{Settings}

-- the program's sizes
pub record SizesPre (c : Settings) : Type 0 where
  pub columns : c.ncol ≤ 16
  pub rows : c.nrow ≤ 64
  pub width : c.nb ≤ 16
