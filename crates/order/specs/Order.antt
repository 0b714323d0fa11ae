-- What taking a vector in an order, and putting it back, ask of the caller. Definitions only. Assumes nothing.
use Rattle.std.specs.Prelude.{◌≡◌, List, ℕ, ◌<◌, length}
use Rattle.model.specs.Matrix.{naturals}

-- the order has n positions, and each names a place of the vector
pub record OrderPre (order : List ℕ) (len n : ℕ) : Type 0 where
  pub count : length order ≡ n
  pub rows : (k : ℕ) → k < n → naturals order k < len
