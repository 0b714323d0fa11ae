-- What reading a pivot off the lists asks of its caller. Definitions only. Assumes nothing.
use Rattle.std.specs.Prelude.{◌≡◌, List, ℕ, ◌+◌, ◌<◌, length}
use Rattle.model.specs.Matrix.{naturals}

-- a block's two columns are there
pub record BlockPre (k ld ls : ℕ) : Type 0 where
  pub d : k + 1 < ld
  pub sub : k < ls

-- the three lists have column k, and the next where a block begins there
pub record PivotPre (k ld ls : ℕ) (blocks : List ℕ) : Type 0 where
  pub d : k < ld
  pub sub : k < ls
  pub byte : k < length blocks
  pub next : naturals blocks k ≡ 1 → k + 1 < ld
