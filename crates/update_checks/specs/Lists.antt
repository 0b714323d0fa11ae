-- Refusals 13 to 16 as one check, what they leave, and what the tests ask of their callers. From docs/SCOPE.md, "Update". Definitions only. Assumes nothing.
use Rattle.std.specs.Prelude.{◌≡◌, not, ◌&&◌, List, ℕ, ◌+◌, ◌*◌, ◌<◌, ◌≤◌, length, Float}
use Rattle.model.specs.Sizes.{most_columns, most_rows}
use Rattle.model.specs.Matrix.{naturals}
use Rattle.model.specs.Inertia.{check_bytes}
use Rattle.model.specs.Update.{Target, Descendant, update_sound, rising, begins_at}
use Rattle.model.specs.Answer.{Check, or_else, refuse_if}
use Rattle.model.specs.declared.Refusal.TheVariants.{UpdateLength, TargetRows, DescendantRows}
use Rattle.landing.specs.Nodes.{NumbersPre}

-- refusals 13 to 16
unfoldable pub lists_check : Target → Descendant → List Float → Check
lists_check t k panel =
    or_else (refuse_if (not (update_sound t k panel)) UpdateLength)
    (or_else (refuse_if (not (rising (naturals t.rows) t.nrow && begins_at t.first (naturals t.rows) t.ncol)) TargetRows)
    (or_else (refuse_if (not (rising (naturals k.rows) k.mk)) DescendantRows) (check_bytes k.blocks)))

-- ---- what the functions ask of their callers

-- the sizes and lengths that refusal 13 leaves
pub record Sizes (t : Target) (k : Descendant) (panel : ℕ) : Type 0 where
  pub columns : t.ncol ≤ most_columns
  pub rows : t.nrow ≤ most_rows
  pub head : t.ncol ≤ t.nrow
  pub few : k.nk ≤ most_columns
  pub all : k.nk + k.mk ≤ most_rows
  pub area : panel ≡ t.nrow * t.ncol
  pub target : length t.rows ≡ t.nrow
  pub numbers : length k.panel ≡ (k.nk + k.mk) * k.nk
  pub pivots : length k.d ≡ k.nk
  pub subdiagonal : length k.sub ≡ k.nk
  pub bytes : length k.blocks ≡ k.nk
  pub descendant : length k.rows ≡ k.mk

-- column c of a descendant whose lists have their lengths
pub record ColumnPre (k : Descendant) (c : ℕ) : Type 0 where
  pub here : c < k.nk
  pub numbers : NumbersPre k
