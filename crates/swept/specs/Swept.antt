-- Columns of a part of a panel swept in turn, less what one pivot takes from them or two. From docs/SCOPE.md, "The rows below a panel". Rows count from the
-- first row below the panel, columns from the first pivot.
-- Definitions only. Assumes nothing.
use Rattle.std.specs.Prelude.{ℕ, ◌+◌, ◌-◌, ◌*◌, ◌<◌, ◌≤◌, ◌≡◌, Bool, true, false, cond, not, ◌&&◌, List, [], ◌∷◌, Option, MatchOption, Float}
use Rattle.std.specs.Float.Ieee.{eq}
use Rattle.model.specs.Scalar.{zero_f}
use Rattle.model.specs.Matrix.{Mat, view, within, exchanged_place}
use Rattle.model.specs.Head.{last_of}
use Rattle.less.specs.Less.{less_at}
use Rattle.swept.specs.declared.Part.{Part}
use Rattle.swept.specs.declared.Pair.{Pair}

-- ---- columns in turn, in rows lo up to hi

-- in columns c up to j: each number x becomes F row column x
unfoldable pub strip : Mat → ℕ → ℕ → ℕ → ℕ → (ℕ → ℕ → Float → Float) → Mat
strip M c j lo hi F = λ a b. cond (within c j b && within lo hi a) (F a b (M a b)) (M a b)

-- columns c up to j less the first pivot's part. Columns f and kq were exchanged since its multipliers I were kept, so column b goes by the multipliers of
-- the row that b stood in; f and kq may be one.
unfoldable pub swept_first : Bool → Mat → Mat → ℕ → ℕ → ℕ → ℕ → ℕ → ℕ → ℕ → Mat
swept_first block M I f kq k c j lo hi =
    strip M c j lo hi (λ a b x. less_at block (M a) k (I (exchanged_place f kq b) k) (I (exchanged_place f kq b) (k + 1)) x)

-- columns c up to j less the first pivot's part and then the second's
unfoldable pub swept_both : Bool → Bool → Mat → Mat → ℕ → ℕ → ℕ → ℕ → ℕ → ℕ → ℕ → ℕ → Mat
swept_both block1 block2 M I f kq k l c j lo hi =
    strip M c j lo hi (λ a b x. less_at block2 (M a) l (I b l) (I b (l + 1))
    (less_at block1 (M a) k (I (exchanged_place f kq b) k) (I (exchanged_place f kq b) (k + 1)) x))

-- columns c up to j of the part that is lent, by a pair
abbrev pub swept_pair : Pair → Mat → Mat → ℕ → ℕ → Mat
swept_pair pair M I c j = swept_both pair.block1 pair.block2 M I pair.f pair.kq 0 pair.l c j 0 pair.at.rows

-- of the part xs, by the multipliers ms, the columns from j on up to the answer are swept and make ys; without an answer none are
abbrev pub Swept : Pair → List Float → List Float → List Float → ℕ → Option ℕ → Type 0
Swept pair xs ys ms j o =
    MatchOption o (ys ≡ xs)
    (λ next.
    (view pair.at.nrow ys ≡ swept_pair pair (view pair.at.nrow xs) (view pair.at.nb ms) j next) × ((j < next) × (next ≤ pair.at.columns)))

-- ---- the multipliers of column b

-- neither of two multipliers is a zero of either sign
unfoldable pub neither_zero : Float → Float → Bool
neither_zero a b = not (eq a zero_f) && not (eq b zero_f)

-- by two 1x1s, the second at l
unfoldable pub two_of : Mat → ℕ → ℕ → ℕ → ℕ → List Float
two_of I f kq l b = I (exchanged_place f kq b) 0 ∷ I b l ∷ []

-- by a block and then a 1x1 at l, or a 1x1 and then a block, in the order of their three columns; and which of these is the 1x1's
unfoldable pub three_of : (block : Bool) → Mat → ℕ → ℕ → ℕ → ℕ → List Float
three_of true I f kq l b = I (exchanged_place f kq b) 0 ∷ I (exchanged_place f kq b) 1 ∷ I b l ∷ []
three_of false I f kq l b = I (exchanged_place f kq b) 0 ∷ I b l ∷ I b (l + 1) ∷ []

unfoldable pub single_at : Bool → ℕ
single_at block = cond block 2 0

-- ---- what the functions ask

-- the columns and their multipliers are there
pub record PartPre (at : Part) (len len_m : ℕ) : Type 0 where
  pub height : at.rows ≤ at.nrow
  pub room : at.rows + (at.columns - 1) * at.nrow ≤ len
  pub width : at.columns ≤ at.nb
  pub kept : at.columns + (at.columns - 1) * at.nb ≤ len_m

-- pivots at column 0 and right after it at l; the second exchanged its last column f with kq
pub record PairPre (pair : Pair) (len len_m : ℕ) : Type 0 where
  pub frame : PartPre pair.at len len_m
  pub next : pair.l ≡ last_of 0 pair.block1 + 1
  pub last : pair.f ≡ last_of pair.l pair.block2
  pub reach : pair.f ≤ pair.kq
  pub row : pair.kq < pair.at.columns
