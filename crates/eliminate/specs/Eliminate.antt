-- A pivot's elimination by columns. From docs/SCOPE.md, "A 1x1 pivot" and "A block"; the loops run down columns, for speed.
-- `region` and the two sweeps are what the loops over columns leave; the contracts that a reader needs cite the model's row by row definitions.
-- Definitions only. Assumes nothing.
use Rattle.std.specs.Prelude.{ℕ, ◌+◌, ◌-◌, ◌*◌, ◌<◌, ◌≤◌, ◌≡◌, ◌&&◌, cond, leb, Float}
use Rattle.model.specs.Scalar.{◌⊖◌, ◌⊗◌, zero_f, reciprocal_of}
use Rattle.model.specs.Matrix.{Row, Mat, within, with_column}
use Rattle.model.specs.Step.{less_multiple}
use Rattle.model.specs.declared.Block.{Block}
use Rattle.kernels.specs.Rules.{times, combined}
use Rattle.grid.specs.Rules.{column_of}
use Rattle.eliminate.specs.declared.Sweep.{Sweep}

-- the multipliers' buffer by the panel's rows and columns: row j and column c stand at j - kb and c - kb; +0.0 outside the panel
unfoldable pub in_panel : ℕ → ℕ → Mat → Mat
in_panel kb ke m = λ j c. cond (within kb ke j && within kb ke c) (m (j - kb) (c - kb)) zero_f

-- in columns c up to j, rows lo up to hi of the lower triangle: each number x becomes F row column x
unfoldable pub region : Mat → ℕ → ℕ → ℕ → ℕ → (ℕ → ℕ → Float → Float) → Mat
region M c j lo hi F = λ a b. cond (within c j b && (leb b a && within lo hi a)) (F a b (M a b)) (M a b)

-- columns k + 1 up to j after a 1x1 at k: m holds the multipliers by column
unfoldable pub swept_one : Mat → Row → ℕ → ℕ → ℕ → ℕ → Mat
swept_one M m k j lo hi = region M (k + 1) j lo hi (λ a b x. less_multiple x (M a k) (m b))

-- columns k + 2 up to j after a block at k and k + 1
unfoldable pub swept_two : Mat → Row → Row → ℕ → ℕ → ℕ → ℕ → Mat
swept_two M m1 m2 k j lo hi = region M (k + 2) j lo hi (λ a b x. (x ⊖ M a k ⊗ m1 b) ⊖ M a (k + 1) ⊗ m2 b)

-- and the pivot's own columns in rows lo up to hi: the multipliers of those rows
unfoldable pub applied_one : Mat → Row → ℕ → ℕ → ℕ → ℕ → Float → Mat
applied_one M m k ke lo hi d = with_column (swept_one M m k ke lo hi) k lo hi (times (column_of M k) (reciprocal_of d))

unfoldable pub applied_two : Mat → Row → Row → ℕ → ℕ → ℕ → ℕ → Block → Mat
applied_two M m1 m2 k ke lo hi b =
    with_column (with_column (swept_two M m1 m2 k ke lo hi) k lo hi
    (combined (column_of M k) (column_of M (k + 1)) b.d22 b.d21 (reciprocal_of b.det))) (k + 1) lo hi
    (combined (column_of M (k + 1)) (column_of M k) b.d11 b.d21 (reciprocal_of b.det))

-- ---- what the functions ask

-- a sweep of rows lo up to hi for a pivot in columns k to e
pub record SweepPre (s : Sweep) (e len len_m : ℕ) : Type 0 where
  pub size : len ≡ s.at.nrow * s.at.ncol
  pub square : len_m ≡ s.at.nb * s.at.nb
  pub cols : s.at.ke ≤ s.at.ncol
  pub width : s.at.ke ≤ s.at.kb + s.at.nb
  pub from : s.at.kb ≤ s.k
  pub here : e < s.at.ke
  pub up : s.lo ≤ s.hi
  pub last : s.at.ke ≤ s.hi
  pub rows : s.hi ≤ s.at.nrow

-- a 1x1 at k
pub record OnePre (nrow ncol nb kb ke k len len_m : ℕ) : Type 0 where
  pub size : len ≡ nrow * ncol
  pub square : len_m ≡ nb * nb
  pub head : ncol ≤ nrow
  pub cols : ke ≤ ncol
  pub width : ke ≤ kb + nb
  pub from : kb ≤ k
  pub here : k < ke

-- a block at k and k + 1
pub record TwoPre (nrow ncol nb kb ke k len len_m : ℕ) : Type 0 where
  pub size : len ≡ nrow * ncol
  pub square : len_m ≡ nb * nb
  pub head : ncol ≤ nrow
  pub cols : ke ≤ ncol
  pub width : ke ≤ kb + nb
  pub from : kb ≤ k
  pub here : k + 1 < ke

-- rows lo up to ke of column c of the buffer
pub record KeepPre (nb kb ke c lo len_m : ℕ) : Type 0 where
  pub col : nb + (c - kb) * nb ≤ len_m
  pub width : ke ≤ kb + nb
  pub from : kb ≤ c
  pub here : c < ke
  pub above : kb ≤ lo
  pub up : lo ≤ ke

-- column j of a panel of n rows, before row ke
pub record SourcePre (n ke j len : ℕ) : Type 0 where
  pub rows : ke ≤ n
  pub col : n + j * n ≤ len
