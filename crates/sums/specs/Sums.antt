-- The sums over a panel's columns, and what their steps ask of their callers. From docs/SCOPE.md, "The later columns". g holds L-as-D: column t for the panel's
-- column kb + t. Definitions only. Assumes nothing.
use Rattle.std.specs.Prelude.{ℕ, ◌+◌, ◌*◌, ◌<◌, ◌≤◌, Float}
use Rattle.model.specs.Scalar.{◌⊗◌}
use Rattle.model.specs.Matrix.{Row, Mat}
use Rattle.model.specs.Panel.{sum_from}
use Rattle.kernels.specs.Rules.{ahead, plus_four}
use Rattle.sums.specs.declared.Terms.{Terms}

-- row c of the panel's columns, counted from kb
unfoldable pub later_row : Mat → ℕ → ℕ → Row
later_row a c kb = λ t. a c (kb + t)

-- the rows from lo on, counted from there
unfoldable pub rows_from : ℕ → Mat → Mat
rows_from lo g = λ i. g (lo + i)

-- (((x + g0·l0) + g1·l1) + g2·l2) + g3·l3, where g0 to g3 are the runs of g that begin at `from 0` to `from 3`
unfoldable pub plus_runs : Row → (ℕ → ℕ) → Row → (ℕ → Float) → Row
plus_runs x from g l = plus_four x (ahead (from 0) g) (ahead (from 1) g) (ahead (from 2) g) (ahead (from 3) g) (l 0) (l 1) (l 2) (l 3)

-- each number of x with the n terms g·l from column s on added in their order
unfoldable pub gathered : Row → Mat → Row → ℕ → ℕ → Row
gathered x g l s n = λ i. sum_from (λ t. g i t ⊗ l t) s n (x i)

-- ---- what the callers owe

-- four runs of a list, of which the u-th begins at `from u`: n numbers of each, and as many sums
pub record FourPre (n : ℕ) (from : ℕ → ℕ) (xlen ylen glen : ℕ) : Type 0 where
  pub first : n ≤ xlen
  pub second : n ≤ ylen
  pub columns : (u : ℕ) → u < 4 → from u + n ≤ glen

-- row j is there, and so are the rows from lo on, a sum for each, and the terms from t on: columns of g, and columns of the panel after kb
pub record TermsPre (at : Terms) (j t count xlen glen len : ℕ) : Type 0 where
  pub row : j < at.nrow
  pub rows : at.lo + at.n ≤ at.nrow
  pub sums : at.n ≤ xlen
  pub fits : at.kb + t + count ≤ at.nrow
  pub out : (t + count) * at.nrow ≤ glen
  pub columns : (at.kb + t + count) * at.nrow ≤ len

-- the same for the columns before w
pub record GatherPre (at : Terms) (j xlen glen len : ℕ) : Type 0 where
  pub row : j < at.nrow
  pub rows : at.lo + at.n ≤ at.nrow
  pub sums : at.n ≤ xlen
  pub fits : at.kb + at.w ≤ at.nrow
  pub out : at.w * at.nrow ≤ glen
  pub columns : (at.kb + at.w) * at.nrow ≤ len
