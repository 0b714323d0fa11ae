-- The later columns less their sums, and what these steps ask of their callers. From docs/SCOPE.md, "The later columns". g holds L-as-D: column t for the
-- panel's column kb + t. Definitions only. Assumes nothing.
use Rattle.std.specs.Prelude.{◌≡◌, cond, ◌&&◌, ℕ, ◌+◌, ◌-◌, ◌*◌, ◌<◌, ◌≤◌, leb}
use Rattle.model.specs.Scalar.{◌⊖◌}
use Rattle.model.specs.Matrix.{Row, Mat, within}
use Rattle.kernels.specs.Rules.{zeroed}
use Rattle.sums.specs.Sums.{later_row, gathered}
use Rattle.sums.specs.declared.Terms.{Terms}

-- column c less its sums over the w columns from kb on, of which g holds L-as-D
unfoldable pub column_deferred : Mat → Mat → ℕ → ℕ → ℕ → Row
column_deferred a g c kb w = λ i. a i c ⊖ gathered zeroed g (later_row a c kb) 0 w i

-- columns c up to end, of each the rows lo up to hi that stand on its diagonal or below, less their sums
unfoldable pub part_deferred : Mat → Mat → ℕ → ℕ → ℕ → ℕ → ℕ → ℕ → Mat
part_deferred a g kb w c end lo hi = λ i j. cond (within c end j && (leb j i && within lo hi i)) (column_deferred a g j kb w i) (a i j)

-- ---- what the callers owe

-- column j is there, rows lo up to hi reach its diagonal, and each has its sum
pub record LosePre (n j lo hi len slen : ℕ) : Type 0 where
  pub column : n + j * n ≤ len
  pub up : lo ≤ hi
  pub diagonal : j ≤ hi
  pub rows : hi ≤ n
  pub sums : hi ≤ lo + slen

-- columns c and e, which is c or the next, after the panel's, and in them the rows from lo on, for each of which there are two sums
pub record PairPre (at : Terms) (xlen ylen glen len : ℕ) : Type 0 where
  pub after : at.kb + at.w ≤ at.c
  pub next : (at.c ≤ at.e) × (at.e ≤ at.c + 1)
  pub diagonal : (at.c ≤ at.lo) × (at.e < at.lo + at.n)
  pub rows : at.lo + at.n ≤ at.nrow
  pub first : at.n ≤ xlen
  pub other : at.n ≤ ylen
  pub column : at.nrow + at.c * at.nrow ≤ len
  pub second : at.nrow + at.e * at.nrow ≤ len
  pub out : at.w * at.nrow ≤ glen
  pub columns : (at.kb + at.w) * at.nrow ≤ len

-- the later columns of a panel of n rows and c columns, with the products in g
pub record ColumnsPre (n c kb ke glen len : ℕ) : Type 0 where
  pub start : kb ≤ ke
  pub stop : ke ≤ c
  pub rows : c ≤ n
  pub panel : len ≡ n * c
  pub out : (ke - kb) * n ≤ glen

-- rows lo up to hi of n, at most as many as there are sums
pub record RowsPre (n lo hi count : ℕ) : Type 0 where
  pub up : lo ≤ hi
  pub rows : hi ≤ n
  pub few : hi ≤ lo + count
