-- Rows, matrices and lists. From docs/SCOPE.md, "The node" and "The exchange".
-- A row is a function of the column, a matrix of row and column. Definitions only. Assumes nothing.
use Rattle.std.specs.Prelude.{Bool, cond, ◌&&◌, List, [], ◌∷◌, ℕ, zero, suc, ◌+◌, ◌*◌, ◌/◌, ◌%◌, min, max, leb, ltb, eqb, get_or, Float}
use Rattle.std.specs.Float.{nan}
use Rattle.model.specs.Scalar.{zero_f}

abbrev pub Row : Type 0
Row = ℕ → Float

abbrev pub Mat : Type 0
Mat = ℕ → ℕ → Float

-- ---- lists seen as functions

-- where column j of a column-major panel of n rows begins
abbrev pub column_start : ℕ → ℕ → ℕ
column_start n j = j * n

-- such a panel: row i of column j stands i after its column's beginning; past the rows and past the list's end is not-a-number
unfoldable pub view : ℕ → List Float → Mat
view n xs = λ i j. cond (ltb i n) (get_or xs (i + column_start n j) nan) nan

-- a list by its index: numbers, not-a-number past its end; whole numbers, 0 past its end; an order, the index itself past its end
unfoldable pub vec : List Float → Row
vec xs = λ i. get_or xs i nan

unfoldable pub naturals : List ℕ → ℕ → ℕ
naturals xs = λ i. get_or xs i 0

unfoldable pub places : List ℕ → ℕ → ℕ
places xs = λ i. get_or xs i i

-- ---- and back

-- n places from i on
unfoldable pub tabulate_from : {A : Type 0} → ℕ → ℕ → (ℕ → A) → List A
tabulate_from i zero f = []
tabulate_from i (suc n) f = f i ∷ tabulate_from (suc i) n f

-- f 0, f 1, .., f (n - 1)
abbrev pub tabulate : {A : Type 0} → ℕ → (ℕ → A) → List A
tabulate n f = tabulate_from 0 n f

-- the column-major list of a matrix
abbrev pub column_major : ℕ → ℕ → Mat → List Float
column_major nrow ncol a = tabulate (nrow * ncol) (λ p. a (p % nrow) (p / nrow))

-- ---- parts

-- lo ≤ i < hi
abbrev pub within : ℕ → ℕ → ℕ → Bool
within lo hi i = leb lo i && ltb i hi

-- 'the head': the lower triangle of the first ncol rows, +0.0 elsewhere
unfoldable pub head_of : ℕ → Mat → Mat
head_of ncol a = λ i j. cond (leb j i && ltb i ncol) (a i j) zero_f

-- a row's first ncol numbers, +0.0 elsewhere
unfoldable pub row_of : ℕ → Row → Row
row_of ncol r = λ j. cond (ltb j ncol) (r j) zero_f

-- f with v at k
unfoldable pub put : {A : Type 0} → (ℕ → A) → ℕ → A → ℕ → A
put f k v = λ i. cond (eqb i k) v (f i)

-- f with g's values from lo up to hi
unfoldable pub with_part : {A : Type 0} → (ℕ → A) → ℕ → ℕ → (ℕ → A) → ℕ → A
with_part f lo hi g = λ i. cond (within lo hi i) (g i) (f i)

-- a with v at row i, column j
unfoldable pub put_at : Mat → ℕ → ℕ → Float → Mat
put_at a i j v = λ p q. cond (eqb p i && eqb q j) v (a p q)

-- a with f's numbers in column j, rows lo up to hi
unfoldable pub with_column : Mat → ℕ → ℕ → ℕ → Row → Mat
with_column a j lo hi f = λ p q. cond (eqb q j && within lo hi p) (f p) (a p q)

-- ---- the exchange

-- p for q and q for p
abbrev pub exchanged_place : ℕ → ℕ → ℕ → ℕ
exchanged_place p q i = cond (eqb i p) q (cond (eqb i q) p i)

-- a list of places with p and q exchanged
unfoldable pub swapped : (ℕ → ℕ) → ℕ → ℕ → ℕ → ℕ
swapped f p q = λ i. f (exchanged_place p q i)

-- the exchange of p and q in the rows of the lower triangle before the limit, their rows in all earlier columns included:
-- row i, column j becomes what stood, by symmetry, at the exchanged row and column
unfoldable pub exchanged : ℕ → ℕ → ℕ → Mat → Mat
exchanged p q limit a = λ i j.
    let u = exchanged_place p q i in
    let w = exchanged_place p q j in
    cond (leb j i && ltb i limit) (a (max u w) (min u w)) (a i j)
