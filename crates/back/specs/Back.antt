-- Sums down the columns of L, and positions taken back in turn. No answer is defined here: model's `back_from` says what back substitution is. What the
-- functions ask of their callers is what forward substitution asks. Definitions only. Assumes nothing.
use Rattle.std.specs.Prelude.{true, List, ℕ, zero, suc, ◌+◌, ◌-◌, Float}
use Rattle.model.specs.Scalar.{◌⊗◌}
use Rattle.model.specs.Matrix.{Row, Mat, put}
use Rattle.model.specs.Solve.{has_entry, less_later, back_at}
use Rattle.forward.specs.Forward.{ColumnPre}

-- v less the entries of L in m rows of column k from row j on times x, from the last down
unfoldable pub fallen : (ℕ → ℕ) → Mat → Row → (k m j : ℕ) → Float → Float
fallen blocks l x k m j v = less_later (λ i. has_entry blocks i k) (λ i. l i k ⊗ x i) m j v

-- what stands at k less all m rows of its column from row j on times x, from the last down
unfoldable pub fallen_whole : Mat → Row → (k m j : ℕ) → Float
fallen_whole l x k m j = less_later (λ i. true) (λ i. l i k ⊗ x i) m j (x k)

-- position k less its terms of the rows before hi, where v is what it is less those of the rows from hi on
unfoldable pub step_back : (ℕ → ℕ) → Mat → ℕ → ℕ → Float → Row → Row
step_back blocks l hi k v x = put x k (fallen blocks l x k (hi - (k + 1)) (k + 1) v)

-- positions k + 1 and k
unfoldable pub two_back : (ℕ → ℕ) → Mat → ℕ → ℕ → Float → Float → Row → Row
two_back blocks l hi k v w x = step_back blocks l hi k v (step_back blocks l hi (k + 1) w x)

-- m positions from k on, in falling order
unfoldable pub steps_back : (ℕ → ℕ) → Mat → (n m k : ℕ) → Row → Row
steps_back blocks l n zero k x = x
steps_back blocks l n (suc m) k x = steps_back blocks l n m k (put x (k + m) (back_at blocks l n x (k + m)))

-- columns k and k + 1
pub record TwoPre (blocks : List ℕ) (n k hi len : ℕ) : Type 0 where
  pub first : ColumnPre blocks n k hi len
  pub second : ColumnPre blocks n (k + 1) hi len
