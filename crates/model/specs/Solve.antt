-- Solve at a root node: the order taken, forward through L, the pivots, back through L, the order undone. From docs/SCOPE.md, "Solve", and refusals 1, 25,
-- 26, 16 and 27. A vector is a function of the elimination position; the panel is seen as a matrix. Definitions only. Assumes nothing.
use Rattle.std.specs.Prelude.{Bool, false, cond, not, ◌&&◌, ◌||◌, List, ℕ, zero, suc, ◌+◌, ◌-◌, ◌*◌, leb, ltb, eqb, length, Float, Ok, Err}
use Rattle.model.specs.Scalar.{◌⊖◌, ◌⊗◌, reciprocal_of, is_finite}
use Rattle.model.specs.Matrix.{Row, Mat, view, vec, naturals, put, tabulate}
use Rattle.model.specs.Step.{Diagonals, diagonals_of, begins, ends_block, past_of, block_at, first_multiplier, second_multiplier}
use Rattle.model.specs.Answer.{Said, accepted, or_else, refuse_if, turned_away, Check}
use Rattle.model.specs.Inertia.{check_bytes}
use Rattle.model.specs.Factor.{shape_sound}
use Rattle.model.specs.Assembly.{first_not}
use Rattle.model.specs.declared.Refusal.{Refusal}
use Rattle.model.specs.declared.Refusal.TheVariants.{Shape, BufferLength, OrderPlace, RightSide}

-- what a factor call left of the node: the panel with L, D, the order
pub record Factor : Type 0 where
  pub panel : List Float
  pub d : List Float
  pub sub : List Float
  pub blocks : List ℕ
  pub order : List ℕ

-- ---- refusals

-- refusal 1 is not met: as in a factor call, and the node is square
abbrev pub square_sound : ℕ → ℕ → Bool
square_sound ncol nrow = shape_sound ncol nrow && eqb nrow ncol

-- refusal 25 is not met
unfoldable pub solve_lengths : ℕ → ℕ → Factor → List Float → Bool
solve_lengths ncol nrow f vector =
    eqb (length f.panel) (nrow * ncol) && (eqb (length f.d) ncol && (eqb (length f.sub) ncol
    && (eqb (length f.blocks) ncol && (eqb (length f.order) ncol && eqb (length vector) ncol))))

-- one of the first k positions names row r
unfoldable pub named : (ℕ → ℕ) → ℕ → ℕ → Bool
named order zero r = false
named order (suc k) r = named order k r || eqb (order k) r

-- refusal 26 is not met at position k: the order names one of n rows there, and none that it named before
unfoldable pub order_sound : (ℕ → ℕ) → ℕ → ℕ → Bool
order_sound order n k = ltb (order k) n && not (named order k (order k))

-- what is refused there
abbrev pub order_at : ℕ → Refusal
order_at k = OrderPlace (record { 0 = k })

-- refusal 26: the least of n positions that is not sound
abbrev pub check_order : ℕ → (ℕ → ℕ) → Check
check_order n order = first_not (order_sound order n) order_at n 0

-- refusal 27: the least of n numbers that is not finite
abbrev pub right_side_at : ℕ → Refusal
right_side_at i = RightSide (record { 0 = i })

abbrev pub check_right_side : ℕ → Row → Check
check_right_side n b = first_not (λ i. is_finite (b i)) right_side_at n 0

-- 1, 25, 26, 16, 27
unfoldable pub solve_check : ℕ → ℕ → Factor → List Float → Check
solve_check ncol nrow f vector =
    or_else (refuse_if (not (square_sound ncol nrow)) Shape)
    (or_else (refuse_if (not (solve_lengths ncol nrow f vector)) BufferLength)
    (or_else (check_order ncol (naturals f.order)) (or_else (check_bytes f.blocks) (check_right_side ncol (vec vector)))))

-- ---- L

-- 'Inside a block L has no entry': row i has one in column j if it stands past the pivot that column j begins or ends
abbrev pub has_entry : (ℕ → ℕ) → ℕ → ℕ → Bool
has_entry blocks i j = leb (past_of blocks j) i

-- v less a term, where L has an entry
abbrev pub less_where : Bool → Float → Float → Float
less_where there v term = cond there (v ⊖ term) v

-- v less its terms of the first m positions, one after another, by rising position
unfoldable pub less_earlier : (ℕ → Bool) → Row → ℕ → Float → Float
less_earlier there term zero v = v
less_earlier there term (suc m) v = less_where (there m) (less_earlier there term m v) (term m)

-- v less its terms of m positions from j on, one after another, by falling position
unfoldable pub less_later : (ℕ → Bool) → Row → ℕ → ℕ → Float → Float
less_later there term zero j v = v
less_later there term (suc m) j v = less_where (there j) (less_later there term m (j + 1) v) (term j)

-- ---- the steps

-- position k going forward: less L(k, j)·y(j) of the positions j before it
abbrev pub forward_at : (ℕ → ℕ) → Mat → Row → ℕ → Float
forward_at blocks l y k = less_earlier (λ j. has_entry blocks k j) (λ j. l k j ⊗ y j) k (y k)

-- 'Forward': m positions from k on, in rising order
unfoldable pub forward_from : (ℕ → ℕ) → Mat → ℕ → ℕ → Row → Row
forward_from blocks l zero k y = y
forward_from blocks l (suc m) k y = forward_from blocks l m (k + 1) (put y k (forward_at blocks l y k))

-- 'The pivots': at a 1x1 y·(1/d); at a block's two positions the elimination's formulas
unfoldable pub divided : Diagonals → Row → Row
divided D y = λ k.
    let single = y k ⊗ reciprocal_of (D.d k) in
    let first = first_multiplier (block_at D.d D.sub k) (y k) (y (k + 1)) in
    let second = second_multiplier (block_at D.d D.sub (k - 1)) (y (k - 1)) (y k) in
    cond (begins D.blocks k) first (cond (ends_block D.blocks k) second single)

-- position k of n going back: less L(j, k)·x(j) of the positions j after it
abbrev pub back_at : (ℕ → ℕ) → Mat → ℕ → Row → ℕ → Float
back_at blocks l n x k = less_later (λ j. has_entry blocks j k) (λ j. l j k ⊗ x j) (n - (k + 1)) (k + 1) (x k)

-- 'Back': the first m of n positions, in falling order
unfoldable pub back_from : (ℕ → ℕ) → Mat → ℕ → ℕ → Row → Row
back_from blocks l n zero x = x
back_from blocks l n (suc m) x = back_from blocks l n m (put x m (back_at blocks l n x m))

-- the three of them on n positions
unfoldable pub substituted : ℕ → Diagonals → Mat → Row → Row
substituted n D l y = back_from D.blocks l n n (divided D (forward_from D.blocks l n 0 y))

-- 'In the recorded order'
unfoldable pub ordered : (ℕ → ℕ) → Row → Row
ordered order b = λ k. b (order k)

-- 'The order undone': the vector b with what stands at m positions from k on put at the rows that the order names
unfoldable pub returned_from : (ℕ → ℕ) → Row → ℕ → ℕ → Row → Row
returned_from order x zero k b = b
returned_from order x (suc m) k b = returned_from order x m (k + 1) (put b (order k) (x k))

-- ---- the call

-- the solution of n positions
unfoldable pub solution_of : ℕ → Diagonals → Mat → (ℕ → ℕ) → Row → Row
solution_of n D l order b = returned_from order (substituted n D l (ordered order b)) n 0 b

-- what a call leaves: its answer and the vector
pub record Solved : Type 0 where
  pub answer : Said (Unit {0})
  pub vector : List Float

abbrev pub solved_after : Check → List Float → List Float → Solved
solved_after (Ok u) new vector = record { answer = accepted tt; vector = new }
solved_after (Err r) new vector = record { answer = turned_away r; vector = vector }

unfoldable pub solve_of : ℕ → ℕ → Factor → List Float → Solved
solve_of ncol nrow f vector =
    let new =
    tabulate ncol (solution_of ncol (diagonals_of f.d f.sub f.blocks) (view nrow f.panel) (naturals f.order) (vec vector)) in
    solved_after (solve_check ncol nrow f vector) new vector
