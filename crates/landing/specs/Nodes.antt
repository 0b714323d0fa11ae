-- A target and a descendant as the definitions have them, and the lengths of a descendant's lists. Definitions only. Assumes nothing.
use Rattle.std.specs.Prelude.{◌≡◌, List, ℕ, ◌+◌, ◌*◌, ◌≤◌, length, Float}
use Rattle.model.specs.Sizes.{most_columns, most_rows}
use Rattle.model.specs.Update.{Target, Descendant}
use Rattle.landing.specs.declared.Target as lent_target
use Rattle.landing.specs.declared.Descendant as lent_descendant

abbrev pub target_of : ℕ → ℕ → ℕ → List ℕ → Target
target_of ncol nrow first rows = record { ncol = ncol; nrow = nrow; first = first; rows = rows }

abbrev pub descendant_of : ℕ → ℕ → List Float → List Float → List Float → List ℕ → List ℕ → Descendant
descendant_of nk mk panel d sub blocks rows = record { nk = nk; mk = mk; panel = panel; d = d; sub = sub; blocks = blocks; rows = rows }

-- the same of what is lent
abbrev pub target_in : lent_target.Target → Target
target_in t = target_of t.ncol t.nrow t.first.0 t.rows.now

abbrev pub descendant_in : lent_descendant.Descendant → Descendant
descendant_in k = descendant_of k.nk k.mk k.panel.now k.d.now k.sub.now k.blocks.now k.rows.now

-- ---- what the functions ask of their callers

-- a descendant's sizes, and the lengths of its numbers' lists
pub record NumbersPre (k : Descendant) : Type 0 where
  pub narrow : k.nk ≤ most_columns
  pub few : k.nk + k.mk ≤ most_rows
  pub area : length k.panel ≡ (k.nk + k.mk) * k.nk
  pub pivots : length k.d ≡ k.nk
  pub subdiagonal : length k.sub ≡ k.nk
  pub bytes : length k.blocks ≡ k.nk
