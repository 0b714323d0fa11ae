-- The parts that make the symmetric exchange of rows and columns p < q in a lower triangle, in the order of the Rust, and what they ask of their callers.
-- The columns' part is grid's `columns_exchanged`; the whole is model's `exchanged`. Definitions only. Assumes nothing.
use Rattle.std.specs.Prelude.{◌≡◌, cond, ◌&&◌, ℕ, ◌+◌, ◌*◌, ◌<◌, ◌≤◌, eqb}
use Rattle.model.specs.Matrix.{Mat, within, exchanged_place}

-- (k, p) and (q, k), for k from lo up to hi
unfoldable pub cross_exchanged : Mat → ℕ → ℕ → ℕ → ℕ → Mat
cross_exchanged M p q lo hi = λ i j. cond (eqb j p && within lo hi i) (M q i) (cond (eqb i q && within lo hi j) (M j p) (M i j))

-- (p, p) and (q, q)
unfoldable pub diagonal_exchanged : Mat → ℕ → ℕ → Mat
diagonal_exchanged M p q = λ i j. cond (eqb i p && eqb j p) (M q q) (cond (eqb i q && eqb j q) (M p p) (M i j))

-- columns lo up to hi of rows p and q
unfoldable pub rows_exchanged : Mat → ℕ → ℕ → ℕ → ℕ → Mat
rows_exchanged M p q lo hi = λ i j. cond (within lo hi j) (M (exchanged_place p q i) j) (M i j)

-- ---- what the callers owe

-- rows p < q of n, and the columns of the same numbers
pub record PairPre (n p q len : ℕ) : Type 0 where
  pub order : p < q
  pub rows : q < n
  pub one : n + p * n ≤ len
  pub other : n + q * n ≤ len

-- p < q before a limit that is within a panel of n rows and c columns
pub record ExchangePre (n c p q limit len : ℕ) : Type 0 where
  pub order : p < q
  pub before : q < limit
  pub rows : limit ≤ n
  pub columns : q < c
  pub panel : len ≡ n * c

-- the same with p ≤ q
pub record ExchangeIfPre (n c p q limit len : ℕ) : Type 0 where
  pub order : p ≤ q
  pub before : q < limit
  pub rows : limit ≤ n
  pub columns : q < c
  pub panel : len ≡ n * c
