-- The lengths of the lists that the functions print. Definitions only. Assumes nothing.
use Rattle.std.specs.Prelude.{◌≡◌, ℕ, ◌-◌, ◌*◌, ◌≤◌}
use Rattle.model.specs.declared.Settings.{Settings}

-- lists by position, all of one length
pub record PivotsPre (d sub blocks lifts amounts tests : ℕ) : Type 0 where
  pub subs : sub ≡ d
  pub bytes : blocks ≡ d
  pub lifted : lifts ≡ d
  pub added : amounts ≡ d
  pub decided : tests ≡ d

-- a panel of few columns, and the marks of its tail rows
pub record RowsPre (nrow ncol panel marks : ℕ) : Type 0 where
  pub columns : ncol ≤ 16
  pub numbers : panel ≡ nrow * ncol
  pub tail : marks ≡ nrow - ncol

-- the lists of a factor call at the program's sizes
pub record LinesPre (c : Settings) (panel d sub blocks lifts amounts tests order marks : ℕ) : Type 0 where
  pub columns : c.ncol ≤ 16
  pub rows : c.nrow ≤ 64
  pub numbers : panel ≡ c.nrow * c.ncol
  pub diagonal : d ≡ c.ncol
  pub subs : sub ≡ c.ncol
  pub bytes : blocks ≡ c.ncol
  pub lifted : lifts ≡ c.ncol
  pub added : amounts ≡ c.ncol
  pub decided : tests ≡ c.ncol
  pub places : order ≡ c.nrow
  pub tail : marks ≡ c.nrow - c.ncol
