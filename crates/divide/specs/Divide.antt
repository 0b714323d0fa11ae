-- What one pivot of D makes of a vector, and what the functions ask of their callers. No answer is defined here: model's `divided` says what each position
-- becomes. Definitions only. Assumes nothing.
use Rattle.std.specs.Prelude.{◌≡◌, cond, List, ℕ, ◌+◌, length}
use Rattle.model.specs.Scalar.{◌⊗◌, reciprocal_of}
use Rattle.model.specs.Matrix.{Row, naturals, put}
use Rattle.model.specs.Step.{Diagonals, begins, block_at, first_multiplier, second_multiplier}
use Rattle.model.specs.Kept.{Paired}

-- the pivot that begins at k
unfoldable pub pivot_divided : Diagonals → ℕ → Row → Row
pivot_divided D k y =
    let b = block_at D.d D.sub k in
    let two = put (put y k (first_multiplier b (y k) (y (k + 1)))) (k + 1) (second_multiplier b (y k) (y (k + 1))) in
    cond (begins D.blocks k) two (put y k (y k ⊗ reciprocal_of (D.d k)))

-- lists of n places, and sound block bytes
pub record DividePre (blocks : List ℕ) (ld ls n : ℕ) : Type 0 where
  pub d : ld ≡ n
  pub sub : ls ≡ n
  pub bytes : length blocks ≡ n
  pub paired : Paired n (naturals blocks)
