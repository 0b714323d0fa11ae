-- Refusals 17 and 18 as one check, what they and the update leave, and what the call's steps ask of their callers. From docs/SCOPE.md, "Update".
-- Definitions only. Assumes nothing.
use Rattle.std.specs.Prelude.{◌≡◌, true, cond, not, List, ℕ, ◌≤◌, leb, length, Float, Ok}
use Rattle.model.specs.Matrix.{view, naturals, column_major}
use Rattle.model.specs.Factor.{every_from}
use Rattle.model.specs.Inertia.{check_bytes}
use Rattle.model.specs.Assembly.{first_not, Panelled, panel_after}
use Rattle.model.specs.Update.{Target, Descendant, absent_from, descendant_sound, number_at, updated}
use Rattle.model.specs.Answer.{Check, or_else}
use Rattle.landing.specs.Rows.{rises_at, stands_at}
use Rattle.update_checks.specs.Lists.{Sizes}

-- refusals 17 and 18
unfoldable pub columns_check : Target → Descendant → Check
columns_check t k =
    or_else (cond (leb 1 k.nk) (absent_from t (naturals k.rows) k.mk 0 (not true)) (Ok tt)) (first_not (descendant_sound k) number_at k.nk 0)

-- the target's panel with the update
unfoldable pub updated_panel : Target → Descendant → List Float → List Float
updated_panel t k panel = column_major t.nrow t.ncol (updated t k (view t.nrow panel))

-- what refusals 17 and 18 and the update leave
unfoldable pub columns_of : Target → Descendant → List Float → Panelled
columns_of t k panel = panel_after (columns_check t k) (updated_panel t k panel) panel

-- ---- what the functions ask of their callers

-- lists that refusals 13 to 16 leave, of a descendant that has columns
pub record ListsPre (t : Target) (k : Descendant) (panel : ℕ) : Type 0 where
  pub some : 1 ≤ k.nk
  pub sizes : Sizes t k panel
  pub target : every_from (rises_at (naturals t.rows) (length t.rows)) (length t.rows) 0 ≡ true
  pub columns : every_from (stands_at t.first (naturals t.rows)) t.ncol 0 ≡ true
  pub descendant : every_from (rises_at (naturals k.rows) (length k.rows)) (length k.rows) 0 ≡ true
  pub check : check_bytes k.blocks ≡ Ok tt
