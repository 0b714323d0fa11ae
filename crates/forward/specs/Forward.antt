-- What columns of L take from a vector, column by column, and what the functions ask of their callers. No answer is defined here: model's `forward_from`
-- says what forward substitution is, position by position. Definitions only. Assumes nothing.
use Rattle.std.specs.Prelude.{◌≡◌, List, ℕ, zero, suc, ◌+◌, ◌*◌, ◌<◌, ◌≤◌, min, length, Float}
use Rattle.model.specs.Scalar.{◌⊖◌, ◌⊗◌}
use Rattle.model.specs.Matrix.{Row, Mat, naturals, with_part}
use Rattle.model.specs.Step.{past_of}
use Rattle.model.specs.Kept.{Paired}
use Rattle.kernels.specs.Rules.{less_all}

-- x less c runs of g, of which the u-th begins at `from u`, each times its own of m, in turn
unfoldable pub less_of : ℕ → Row → Row → (ℕ → ℕ) → (ℕ → Float) → Row
less_of c f g from m = λ a. less_all c (f a) (λ u. g (from u + a)) m

-- rows before hi that stand past the pivot of column k lose their L there times what stands at k
unfoldable pub column_lost : (ℕ → ℕ) → Mat → ℕ → ℕ → Row → Row
column_lost blocks l hi k y = with_part y (past_of blocks k) hi (λ i. y i ⊖ l i k ⊗ y k)

-- m columns from k on, one after another
unfoldable pub columns_lost : (ℕ → ℕ) → Mat → ℕ → ℕ → ℕ → Row → Row
columns_lost blocks l hi zero k y = y
columns_lost blocks l hi (suc m) k y = column_lost blocks l hi (k + m) (columns_lost blocks l hi m k y)

-- rows lo up to hi lose columns k to k + 3, in turn
unfoldable pub four_lost : Mat → ℕ → ℕ → ℕ → Row → Row
four_lost l lo hi k y = with_part y lo hi (λ i. less_all 4 (y i) (λ u. l i (k + u)) (λ u. y (k + u)))

-- ---- what the callers owe

-- n numbers of the slice that is written, and as many of the other from each of c places on
pub record LessPre (c n : ℕ) (from : ℕ → ℕ) (x g : ℕ) : Type 0 where
  pub out : n ≤ x
  pub runs : (u : ℕ) → u < c → from u + n ≤ g

-- a panel of n columns and rows, and as many sound block bytes
pub record ForwardPre (blocks : List ℕ) (n len : ℕ) : Type 0 where
  pub bytes : length blocks ≡ n
  pub paired : Paired n (naturals blocks)
  pub area : len ≡ n * n

-- column k, and rows before hi that end past its pivot
pub record ColumnPre (blocks : List ℕ) (n k hi len : ℕ) : Type 0 where
  pub bytes : length blocks ≡ n
  pub column : k < n
  pub past : past_of (naturals blocks) k ≤ hi
  pub rows : hi ≤ n
  pub area : len ≡ n * n

-- columns s up to e, and rows before hi that end past the pivots of all of them: past the column after them, or at the end
pub record ColumnsPre (blocks : List ℕ) (n s e hi len : ℕ) : Type 0 where
  pub whole : ForwardPre blocks n len
  pub up : s ≤ e
  pub columns : e ≤ n
  pub past : min (e + 1) n ≤ hi
  pub rows : hi ≤ n

-- columns k to k + 3, and rows from lo on
pub record BelowPre (n k lo len : ℕ) : Type 0 where
  pub columns : k + 4 ≤ n
  pub rows : lo ≤ n
  pub area : len ≡ n * n

pub record TogetherPre (blocks : List ℕ) (n k len : ℕ) : Type 0 where
  pub whole : ForwardPre blocks n len
  pub columns : k + 4 ≤ n
