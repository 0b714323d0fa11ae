-- The rows of the update step by step, as the code takes them, and what its functions ask of their callers. From docs/SCOPE.md, "Update".
-- `places` has, for each row of the descendant from the first landing on, its row in the target. Definitions only. Assumes nothing.
use Rattle.std.specs.Prelude.{◌≡◌, cond, ◌&&◌, List, ℕ, zero, suc, ◌+◌, ◌-◌, ◌*◌, ◌<◌, ◌≤◌, eqb, length, Float, Ok}
use Rattle.model.specs.Sizes.{most_columns}
use Rattle.model.specs.Scalar.{◌⊖◌}
use Rattle.model.specs.Matrix.{Row, Mat, naturals}
use Rattle.model.specs.Inertia.{check_bytes}
use Rattle.model.specs.Update.{Target, Descendant, update_acc}
use Rattle.grid.specs.Grid.{In}
use Rattle.landing.specs.Nodes.{NumbersPre}
use Rattle.landing.specs.Rows.{lands_on}

-- acc of the landing row c, by the descendant's rows
unfoldable pub landing_acc : Descendant → ℕ → Row
landing_acc k c = λ r. update_acc k r c

-- a less x at row i, column j
unfoldable pub less_at : Mat → ℕ → ℕ → Float → Mat
less_at a i j x = λ p q. let less = a p q ⊖ x in cond (eqb p i && eqb q j) less (a p q)

-- column j less acc, at the places of m rows of the descendant from r on
unfoldable pub less_from : (ℕ → ℕ) → Row → ℕ → ℕ → ℕ → Mat → Mat
less_from places acc j zero r a = a
less_from places acc j (suc m) r a = less_from places acc j m (r + 1) (less_at a (places r) j (acc r))

-- row c of the descendant, if it lands on one of the ncol columns from `first` on
unfoldable pub row_applied : ℕ → ℕ → Descendant → (ℕ → ℕ) → ℕ → Mat → Mat
row_applied first ncol k places c a =
    let new = less_from places (landing_acc k c) (naturals k.rows c - first) (k.mk - c) c a in
    cond (lands_on first ncol (naturals k.rows c)) new a

-- m rows of the descendant from c on
unfoldable pub rows_applied : ℕ → ℕ → Descendant → (ℕ → ℕ) → ℕ → ℕ → Mat → Mat
rows_applied first ncol k places zero c a = a
rows_applied first ncol k places (suc m) c a = rows_applied first ncol k places m (c + 1) (row_applied first ncol k places c a)

-- ---- what the functions ask of their callers

-- rows lo up to hi of the descendant have their places in column j, and their acc, which begins with row lo's
pub record SubtractPre (n j : ℕ) (places : List ℕ) (lo hi panel acc : ℕ) : Type 0 where
  pub up : lo ≤ hi
  pub there : hi ≤ length places
  pub sums : hi - lo ≤ acc
  pub inside : (r : ℕ) → lo ≤ r → r < hi → In n (naturals places r) j panel

-- target and descendant, with the places of the descendant's rows from lo on
pub record ApplyPre (t : Target) (k : Descendant) (places : List ℕ) (lo panel : ℕ) : Type 0 where
  pub few : t.ncol ≤ most_columns
  pub area : panel ≡ t.nrow * t.ncol
  pub numbers : NumbersPre k
  pub check : check_bytes k.blocks ≡ Ok tt
  pub room : k.mk ≤ length places
  pub inside : (r : ℕ) → lo ≤ r → r < k.mk → naturals places r < t.nrow

-- rows lo up to hi of the descendant, at or past the row c that lands on column j, and room for their acc
pub record PartPre (ncol mk c j lo hi room : ℕ) : Type 0 where
  pub lands : j < ncol
  pub past : c ≤ lo
  pub up : lo ≤ hi
  pub there : hi ≤ mk
  pub here : c < mk
  pub fits : hi - lo ≤ room
