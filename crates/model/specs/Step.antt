-- One elimination step: what it does to a row, and how it is read off the record of pivots. From docs/SCOPE.md, "A 1x1 pivot", "A block" and
-- "The rows below a panel". Definitions only. Assumes nothing.
use Rattle.std.specs.Prelude.{Bool, true, false, cond, ◌&&◌, List, ℕ, zero, suc, ◌+◌, ◌-◌, eqb, ltb, Float, length, ◌≡◌}
use Rattle.std.specs.Float.Ieee.{eq}
use Rattle.model.specs.Scalar.{◌⊖◌, ◌⊗◌, zero_f, reciprocal_of}
use Rattle.model.specs.Matrix.{Row, Mat, vec, naturals, places, within, exchanged_place}
use Rattle.std.specs.Borrow.{MutBor}
use Rattle.model.specs.declared.Block.{Block}
use Rattle.model.specs.declared.Diagonal.{Diagonal}
use Rattle.model.specs.declared.Diagonal.TheVariants.{One, Two}
use Rattle.model.specs.declared.DiagonalLists.{DiagonalLists}
use Rattle.model.specs.declared.PivotRecord.{PivotRecord}

-- A 1x1 pivot d at k, or a block at k and k + 1; kp is the row exchanged with k, or with k + 1; the rows hold the multipliers of the panel's
-- rows, by row, as they were when the step was taken.
pub data Step : Type 0 where
  one : (k kp : ℕ) → Float → Row → Step
  two : (k kp : ℕ) → Block → Row → Row → Step

-- 'det = d11·d22 − d21·d21'
abbrev pub block_of : Float → Float → Float → Block
block_of d11 d21 d22 = record { d11 = d11; d21 = d21; d22 = d22; det = d11 ⊗ d22 ⊖ d21 ⊗ d21 }

-- the block at k and k + 1 of a matrix
abbrev pub block_in : Mat → ℕ → Block
block_in a k = block_of (a k k) (a (k + 1) k) (a (k + 1) (k + 1))

-- ---- a pivot's numbers as d and the subdiagonal hold them

abbrev pub is_block : Diagonal → Bool
is_block (One d) = false
is_block (Two b) = true

-- in d at its first column and at its last, which are one for a 1x1; in the subdiagonal at its first
abbrev pub first_number : Diagonal → Float
first_number (One d) = d
first_number (Two b) = b.d11

abbrev pub last_number : Diagonal → Float
last_number (One d) = d
last_number (Two b) = b.d22

abbrev pub under_number : Diagonal → Float
under_number (One d) = zero_f
under_number (Two b) = b.d21

-- ---- the step

-- 'l1' and 'l2': a block's multipliers of a row with x and y in its two columns
abbrev pub first_multiplier : Block → Float → Float → Float
first_multiplier b x y = (b.d22 ⊗ x ⊖ b.d21 ⊗ y) ⊗ reciprocal_of b.det

abbrev pub second_multiplier : Block → Float → Float → Float
second_multiplier b x y = (b.d11 ⊗ y ⊖ b.d21 ⊗ x) ⊗ reciprocal_of b.det

-- 'x − entry·m', left alone where m is a zero of either sign
abbrev pub less_multiple : Float → Float → Float → Float
less_multiple x entry m = let less = x ⊖ entry ⊗ m in cond (eq m zero_f) x less

-- a row after the step: its pivot columns become multipliers, its columns past them and before `end` lose the pivot's part
unfoldable pub eliminated : Step → ℕ → Row → Row
eliminated (one k kp d m) end r = λ j.
    let scaled = r k ⊗ reciprocal_of d in
    let less = less_multiple (r j) (r k) (m j) in
    cond (eqb j k) scaled (cond (within (k + 1) end j) less (r j))
eliminated (two k kp b m1 m2) end r = λ j.
    let first = first_multiplier b (r k) (r (k + 1)) in
    let second = second_multiplier b (r k) (r (k + 1)) in
    let less = (r j ⊖ r k ⊗ m1 j) ⊖ r (k + 1) ⊗ m2 j in
    cond (eqb j k) first (cond (eqb j (k + 1)) second (cond (within (k + 2) end j) less (r j)))

-- the column that a step exchanges, and the row that it exchanges it with
abbrev pub moved_column : Step → ℕ
moved_column (one k kp d m) = k
moved_column (two k kp b m1 m2) = k + 1

abbrev pub partner_of : Step → ℕ
partner_of (one k kp d m) = kp
partner_of (two k kp b m1 m2) = kp

-- a row below the panel that ends at ke: its exchange of two entries, then its elimination in the columns before ke
unfoldable pub row_after_step : ℕ → Step → Row → Row
row_after_step ke s r = eliminated s ke (λ j. r (exchanged_place (moved_column s) (partner_of s) j))

-- ---- the record of pivots, in its parts

-- D: d, the subdiagonal, and a byte that is 1 where a block begins
pub record Diagonals : Type 0 where
  pub d : Row
  pub sub : Row
  pub blocks : ℕ → ℕ

-- as the three lists of a call hold it
abbrev pub diagonals_of : List Float → List Float → List ℕ → Diagonals
diagonals_of d sub blocks = record { d = vec d; sub = vec sub; blocks = naturals blocks }

abbrev pub diagonals_in : DiagonalLists → Diagonals
diagonals_in x = diagonals_of x.d.now x.sub.now x.blocks.now

-- what a caller is told beside D and no step reads: a byte that is 1 where a lift was, lift amounts, test numbers, the order
pub record Notes : Type 0 where
  pub lifts : ℕ → ℕ
  pub amounts : Row
  pub tests : ℕ → ℕ
  pub order : ℕ → ℕ

abbrev pub notes_of : (lifts : List ℕ) (amounts : List Float) (tests order : List ℕ) → Notes
notes_of lifts amounts tests order = record { lifts = naturals lifts; amounts = vec amounts; tests = naturals tests; order = places order }

-- D; the rows exchanged, at a pivot's first column the one with its last column, at a block's second column the one that was exchanged with its first
-- column before; the notes
pub record Pivots : Type 0 where
  pub diagonals : Diagonals
  pub partners : ℕ → ℕ
  pub notes : Notes

abbrev pub pivots_of : (d sub : List Float) (blocks partners lifts : List ℕ) (amounts : List Float) (tests order : List ℕ) → Pivots
pivots_of d sub blocks partners lifts amounts tests order =
    record { diagonals = diagonals_of d sub blocks; partners = naturals partners; notes = notes_of lifts amounts tests order }

abbrev pub recorded_in : PivotRecord → Pivots
recorded_in r = pivots_of r.d.now r.sub.now r.blocks.now r.partners.now r.lifts.now r.amounts.now r.tests.now r.order.now

-- a buffer that stays lent: the reference is the same one and its length is as it was, whatever was written
pub record StaysLent {A : Type 0} (x y : MutBor (List A)) : Type 0 where
  pub name : y.ghost_name ≡ x.ghost_name
  pub count : length y.now ≡ length x.now

-- the same buffers, lent as a record of pivots
pub record SameRecord (x y : PivotRecord) : Type 0 where
  pub d : StaysLent x.d y.d
  pub sub : StaysLent x.sub y.sub
  pub blocks : StaysLent x.blocks y.blocks
  pub partners : StaysLent x.partners y.partners
  pub lifts : StaysLent x.lifts y.lifts
  pub amounts : StaysLent x.amounts y.amounts
  pub tests : StaysLent x.tests y.tests
  pub order : StaysLent x.order y.order

-- a block begins at k
abbrev pub begins : (ℕ → ℕ) → ℕ → Bool
begins blocks k = eqb (blocks k) 1

-- k is a block's second column
abbrev pub ends_block : (ℕ → ℕ) → ℕ → Bool
ends_block blocks k = ltb 0 k && begins blocks (k - 1)

-- the column after the pivot at k
unfoldable pub past_of : (ℕ → ℕ) → ℕ → ℕ
past_of blocks k = cond (begins blocks k) (k + 2) (k + 1)

-- the block that begins at k
abbrev pub block_at : Row → Row → ℕ → Block
block_at d sub k = block_of (d k) (sub k) (d (k + 1))

-- the pivot that begins at k
unfoldable pub diagonal_at : Row → Row → (ℕ → ℕ) → ℕ → Diagonal
diagonal_at d sub blocks k = cond (begins blocks k) (Two (block_at d sub k)) (One (d k))

-- the step at k; `mult j k` is the multiplier of the head's row j in column k, as it was when the step was taken
unfoldable pub step_at : Diagonals → (partners : ℕ → ℕ) → Mat → ℕ → Step
step_at D partners mult k =
    let block = two k (partners k) (block_at D.d D.sub k) (λ j. mult j k) (λ j. mult j (k + 1)) in
    let single = one k (partners k) (D.d k) (λ j. mult j k) in
    cond (begins D.blocks k) block single

-- the row that the step at k exchanged with k before anything else: k itself at a 1x1
unfoldable pub first_of : (blocks partners : ℕ → ℕ) → ℕ → ℕ
first_of blocks partners k = cond (begins blocks k) (partners (k + 1)) k

-- a row below the panel, with that exchange made
unfoldable pub arrived : (blocks partners : ℕ → ℕ) → ℕ → Row → Row
arrived blocks partners k r = λ j. r (exchanged_place k (first_of blocks partners k) j)

-- and after the step at k
unfoldable pub row_stepped : Diagonals → (partners : ℕ → ℕ) → Mat → ℕ → ℕ → Row → Row
row_stepped D partners mult ke k r = row_after_step ke (step_at D partners mult k) (arrived D.blocks partners k r)

-- at most n steps from column k on, up to ke
unfoldable pub row_after_steps : Diagonals → (partners : ℕ → ℕ) → Mat → ℕ → ℕ → ℕ → Row → Row
row_after_steps D partners mult ke zero k r = r
row_after_steps D partners mult ke (suc n) k r =
    let next = row_after_steps D partners mult ke n (past_of D.blocks k) (row_stepped D partners mult ke k r) in
    cond (ltb k ke) next r
