-- What the look at the result after the last column asks of its callers, refusal 9, and its part on a block. From docs/SCOPE.md, "Refusals".
-- Definitions only. Assumes nothing.
use Rattle.std.specs.Prelude.{◌≡◌, Bool, ◌&&◌, List, ℕ, ◌+◌, ◌<◌, length}
use Rattle.model.specs.Scalar.{reciprocal_of, is_finite}
use Rattle.model.specs.Matrix.{naturals}
use Rattle.model.specs.declared.Block.{Block}

-- a block's determinant and its reciprocal
unfoldable pub block_sound : Block → Bool
block_sound b = is_finite b.det && is_finite (reciprocal_of b.det)

-- n pivots, of which no block is cut off at the end
pub record PivotsPre (n subs : ℕ) (bs : List ℕ) : Type 0 where
  pub sub : subs ≡ n
  pub blocks : length bs ≡ n
  pub room : (k : ℕ) → k < n → naturals bs k ≡ 1 → k + 1 < n

-- as many pivots as a panel has columns
pub record ResultPre (ncol ds subs : ℕ) (bs : List ℕ) : Type 0 where
  pub d : ds ≡ ncol
  pub pivots : PivotsPre ncol subs bs
