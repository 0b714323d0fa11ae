-- Laws of a node's shape: the length of its panel fits a machine word. Assumes nothing.
use Prim.Native.Nat.{ℕ, ◌*◌, ◌≤◌}
use native.Mathlib.Nat.{mul-le-mul_left, mul-le-mul_right, le_trans}
use native.Mathlib.Omega.{arith}
use mir.Syntax.{w64}
use mir.Val.{Fits}
use Rattle.model.specs.Sizes.{most_rows}

pub product : {a b : ℕ} (m n : ℕ) → a ≤ m → b ≤ n → a * b ≤ m * n
product {a} {b} m n ha hb = le_trans (mul-le-mul_left a hb) (mul-le-mul_right n ha)

pub area-fits : (ncol nrow : ℕ) → ncol ≤ nrow → nrow ≤ most_rows → Fits w64 (nrow * ncol)
area-fits ncol nrow h l = let a : nrow * ncol ≤ most_rows * most_rows = product most_rows most_rows (omega arith) (omega arith) in record { fits = omega arith }
