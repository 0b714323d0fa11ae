-- L-as-D of a panel's columns, formed by columns, and what its steps ask of their callers. From docs/SCOPE.md, "The later columns".
-- Definitions only. Assumes nothing.
use Rattle.std.specs.Prelude.{◌≡◌, cond, ◌&&◌, List, ℕ, ◌+◌, ◌-◌, ◌*◌, ◌<◌, ◌≤◌, ltb, length, get_or}
use Rattle.model.specs.Matrix.{Row, Mat, naturals, within}
use Rattle.model.specs.Step.{Diagonals}
use Rattle.model.specs.Panel.{times_d}

-- 'L·D' in column k, by rows
unfoldable pub column_product : Diagonals → Mat → ℕ → Row
column_product D a k = λ i. times_d D (a i) k

-- g with L-as-D of the n columns from kb on in its first n columns, rows lo up to hi
unfoldable pub with_products : Mat → Diagonals → Mat → ℕ → ℕ → ℕ → ℕ → Mat
with_products g D a kb lo hi n = λ i t. cond (ltb t n && within lo hi i) (column_product D a (kb + t) i) (g i t)

-- ---- what the callers owe

-- column t of g and column k of the panel are there, of n rows each; rows from lo on
pub record ScalePre (n t k lo glen len : ℕ) : Type 0 where
  pub rows : lo ≤ n
  pub out : n + t * n ≤ glen
  pub column : n + k * n ≤ len

-- and column j
pub record BlendPre (n t k j lo glen len : ℕ) : Type 0 where
  pub rows : lo ≤ n
  pub out : n + t * n ≤ glen
  pub column : n + k * n ≤ len
  pub other : n + j * n ≤ len

-- column k of the panel and its pivot are there, and column k + 1 where a block begins at k
pub record ProductPre (n t k lo glen len dlen slen : ℕ) (blocks : List ℕ) : Type 0 where
  pub rows : lo ≤ n
  pub out : n + t * n ≤ glen
  pub column : n + k * n ≤ len
  pub pivot : k < dlen
  pub sub : k < slen
  pub flag : k < length blocks
  pub block : get_or blocks k 0 ≡ 1 → n + k * n + n ≤ len

-- columns kb to ke of the panel and their pivots are there, g has room for their products, and no block begins in the last of them
pub record ProductsPre (n kb ke glen len dlen slen : ℕ) (blocks : List ℕ) : Type 0 where
  pub start : kb ≤ ke
  pub rows : ke ≤ n
  pub out : (ke - kb) * n ≤ glen
  pub columns : ke * n ≤ len
  pub pivots : ke ≤ dlen
  pub subs : ke ≤ slen
  pub flags : ke ≤ length blocks
  pub closed : naturals blocks (ke - 1) ≡ 1 → ⊥
