-- The C interface's calls: their settings, and what each answers and leaves. Definitions only. Assumes nothing.
use Rattle.std.specs.Prelude.{Bool, List, ℕ, ℤ, Float}
use Rattle.model.specs.Factor as factor
use Rattle.model.specs.Assembly.{Panelled}
use Rattle.model.specs.Solve.{Solved}
use Rattle.model.specs.Lapack.{Listed, Read}
use Rattle.model.specs.declared.Settings.{Settings}
use Rattle.outcome.specs.Numbers.{mode_of, factor_numbers, panel_numbers}
use Rattle.outcome.specs.declared.Outcome.{Outcome}

abbrev pub settings_of : (ncol nrow nb : ℕ) → Bool → Float → ℕ → Settings
settings_of ncol nrow nb lift floor limit = record { ncol = ncol; nrow = nrow; nb = nb; mode = mode_of lift floor; limit = limit }

-- what a factor call answers and leaves
pub record FactorLeft : Type 0 where
  pub outcome : Outcome
  pub buffers : factor.Buffers

unfoldable pub factor_left : factor.Outcome → FactorLeft
factor_left o = record { outcome = factor_numbers o.answer; buffers = o.buffers }

-- what an assembly or an update answers and leaves
pub record PanelLeft : Type 0 where
  pub outcome : Outcome
  pub panel : List Float

unfoldable pub panel_left : Panelled → PanelLeft
panel_left o = record { outcome = panel_numbers o.answer; panel = o.panel }

-- what a solve answers and leaves
pub record VectorLeft : Type 0 where
  pub outcome : Outcome
  pub vector : List Float

unfoldable pub vector_left : Solved → VectorLeft
vector_left o = record { outcome = panel_numbers o.answer; vector = o.vector }

-- what a call to LAPACK, and one from it, answers and leaves
pub record ListLeft : Type 0 where
  pub outcome : Outcome
  pub list : List ℤ

unfoldable pub list_left : Listed → ListLeft
list_left o = record { outcome = panel_numbers o.answer; list = o.list }

pub record OrderLeft : Type 0 where
  pub outcome : Outcome
  pub order : List ℕ
  pub blocks : List ℕ

unfoldable pub order_left : Read → OrderLeft
order_left o = record { outcome = panel_numbers o.answer; order = o.order; blocks = o.blocks }
