-- The sum of a panel's lower positions, as one pass adds them up; what it is for the lower positions to be finite; and a panel's size.
-- The sum is finite only where each of its terms is. Definitions only. Assumes nothing.
use Rattle.std.specs.Prelude.{◌≡◌, Bool, true, cond, ℕ, ◌+◌, ◌-◌, ◌*◌, ◌/◌, ◌≤◌, ltb, Float}
use Rattle.model.specs.Scalar.{◌⊕◌, zero_f, is_finite}
use Rattle.model.specs.Matrix.{Row, Mat}
use Rattle.model.specs.Panel.{sum_from}
use Rattle.model.specs.Factor.{every_from}

-- the sum of the numbers at i, i + 2, .. up to i + 14
unfoldable pub every_second : Row → ℕ → Float
every_second f i = ((f i ⊕ f (i + 2)) ⊕ (f (i + 4) ⊕ f (i + 6))) ⊕ ((f (i + 8) ⊕ f (i + 10)) ⊕ (f (i + 12) ⊕ f (i + 14)))

-- .. of every second number of the sixteen with number t, counted from place p
unfoldable pub sixteen : Row → ℕ → ℕ → Float
sixteen f p t = every_second f (16 * t + p)

-- a sum of n numbers, sixteen or more: the first sixteen, and on top of them as many sixteens before the last number as it takes to reach them. Where the two
-- meet a number is a term twice. Numbers at even and at odd places are added apart
unfoldable pub long_sum : Row → ℕ → Float
long_sum f n =
    let m = (n - 1) / 16 in
    let from = n - m * 16 in
    sum_from (sixteen f from) 0 m (every_second f 0) ⊕ sum_from (sixteen f (from + 1)) 0 m (every_second f 1)

-- a sum in which each of n numbers is a term
unfoldable pub sum_of : Row → ℕ → Float
sum_of f n = cond (ltb n 16) (sum_from f 0 n zero_f) (long_sum f n)

-- .. of column j of n rows from its diagonal down
unfoldable pub column_sum : Mat → ℕ → ℕ → Float
column_sum a n j = sum_of (λ i. a (j + i) j) (n - j)

-- what one pass tells of a panel of n rows and c columns: whether the sum of its lower positions is finite
unfoldable pub sum_finite : Mat → ℕ → ℕ → Bool
sum_finite a n c = is_finite (sum_from (column_sum a n) 0 c zero_f)

-- rows lo up to hi of column j are finite
unfoldable pub column_finite : Mat → ℕ → ℕ → ℕ → Bool
column_finite a j lo hi = every_from (λ i. is_finite (a i j)) (hi - lo) lo

-- the lower positions of n rows and c columns are finite
unfoldable pub lower_finite : Mat → ℕ → ℕ → Bool
lower_finite a n c = every_from (λ j. column_finite a j j n) c 0

-- where b is true the lower positions of a panel of n rows and c columns are finite; where it is false nothing is said of them
pub record KnownFinite (b : Bool) (a : Mat) (n c : ℕ) : Type 0 where
  pub all : b ≡ true → lower_finite a n c ≡ true

-- a list that is a panel of n rows and c columns
pub record PanelPre (n c len : ℕ) : Type 0 where
  pub rows : c ≤ n
  pub panel : len ≡ n * c
