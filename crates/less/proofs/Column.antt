-- A column less the parts of one pivot or of two: what the grid's rules make of it is the rule by the pivots' kinds. What that rule goes by. Assumes nothing.
use Prim.Native.Nat.{ℕ, ◌+◌, ◌≤◌}
use mathlib.Core.Path.{◌≡◌, refl, ◌∙◌, fun_ext}
use mathlib.Core.Bool.{Bool, true, false}
use native.Mathlib.Omega.{arith}
use lib.Ieee.{Float, eq}
use Rattle.model.specs.Scalar.{zero_f}
use Rattle.model.specs.Matrix.{Row, Mat, with_column}
use Rattle.model.specs.Head.{last_of}
use Rattle.model.proofs.Recorded.{last-from, last_block, last-single}
use Rattle.grid.specs.Rules.{column_of, less_times, less_times_if, less_two, less_three, less_four, less_columns, LaterPre}
use Rattle.grid.proofs.Together.{columns-two, columns-three, columns-four}
use Rattle.less.specs.Less.{less_at, stepped, stepped_twice}

-- ---- where a pivot's columns stand

-- what the grid asks, from what is asked by kind
later-at : (n k k' j lo hi len : ℕ) → LaterPre n k j lo hi len → k' ≤ k → LaterPre n k' j lo hi len
later-at n k k' j lo hi len h e = record { col = h.col; past = omega (arith, h.past); up = h.up; rows = h.rows }

-- ---- what the grid leaves of a column less two columns before it, or three, or four

module _ (M Q : Mat) (k j lo hi : ℕ) (m : ℕ → Float) where
  pub by-two : Q ≡ with_column M j lo hi (less_columns 2 M k j m)
      → Q ≡ with_column M j lo hi (less_two (column_of M j) (column_of M k) (column_of M (k + 1)) (m 0) (m 1))
  by-two q = q ∙ rw (columns-two M k j m)

  pub by-three : Q ≡ with_column M j lo hi (less_columns 3 M k j m)
      → Q ≡ with_column M j lo hi (less_three (column_of M j) (column_of M k) (column_of M (k + 1)) (column_of M (k + 2)) (m 0) (m 1) (m 2))
  by-three q = q ∙ rw (columns-three M k j m)

  pub by-four : Q ≡ with_column M j lo hi (less_columns 4 M k j m)
      → Q
      ≡ with_column M j lo hi
      (less_four (column_of M j) (column_of M k) (column_of M (k + 1)) (column_of M (k + 2)) (column_of M (k + 3)) (m 0) (m 1) (m 2) (m 3))
  by-four q = q ∙ rw (columns-four M k j m)

-- ---- zero multipliers

skip : (f s : Row) (m : Float) → eq m zero_f ≡ true → less_times_if f s m ≡ f
unfolding less_times_if
skip f s m e = fun_ext λ a. rw e

apply : (f s : Row) (m : Float) → eq m zero_f ≡ false → less_times_if f s m ≡ less_times f s m
unfolding less_times_if less_times
apply f s m e = fun_ext λ a. rw e

two-times : (f s t : Row) (m1 m2 : Float) → less_two f s t m1 m2 ≡ less_times (less_times f s m1) t m2
unfolding less_two less_times
two-times f s t m1 m2 = refl

three-times : (f s t u : Row) (m1 m2 m3 : Float) → less_three f s t u m1 m2 m3 ≡ less_two (less_times f s m1) t u m2 m3
unfolding less_three less_two less_times
three-times f s t u m1 m2 m3 = refl

-- ---- one pivot

pub block-pre : (n j lo hi len : ℕ) (block : Bool) → LaterPre n (last_of 0 block) j lo hi len → block ≡ true → LaterPre n 1 j lo hi len
block-pre n j lo hi len block h e = later-at n (last_of 0 block) 1 j lo hi len h (omega (arith, last_block 0 block e))

pub step_block : (M Q : Mat) (j lo hi : ℕ) (m1 m2 : Float) (block : Bool) → block ≡ true
    → Q ≡ with_column M j lo hi (less_two (column_of M j) (column_of M 0) (column_of M 1) m1 m2) → Q ≡ with_column M j lo hi (stepped block M 0 j m1 m2)
unfolding stepped less_at less_two column_of
step_block M Q j lo hi m1 m2 block e q = q ∙ rw e

pub step-single : (M Q : Mat) (j lo hi : ℕ) (m1 m2 : Float) (block : Bool) → block ≡ false
    → Q ≡ with_column M j lo hi (less_times_if (column_of M j) (column_of M 0) m1) → Q ≡ with_column M j lo hi (stepped block M 0 j m1 m2)
unfolding stepped less_at less_times_if column_of
step-single M Q j lo hi m1 m2 block e q = q ∙ rw e

-- ---- two pivots, where a multiplier of a 1x1 is zero and where it is none

module _ (M Q : Mat) (f s t : Row) (j lo hi : ℕ) (m1 m2 : Float) where
  pub singles-second : eq m1 zero_f ≡ true → Q ≡ with_column M j lo hi (less_times_if f t m2) → Q ≡ with_column M j lo hi (less_times_if (less_times_if f s m1) t m2)
  singles-second e q = q ∙ rw (skip f s m1 e)

  pub singles-first : eq m2 zero_f ≡ true → Q ≡ with_column M j lo hi (less_times_if f s m1) → Q ≡ with_column M j lo hi (less_times_if (less_times_if f s m1) t m2)
  singles-first e q = q ∙ rw (skip (less_times_if f s m1) t m2 e)

  pub singles-both : eq m1 zero_f ≡ false → eq m2 zero_f ≡ false → Q ≡ with_column M j lo hi (less_two f s t m1 m2)
      → Q ≡ with_column M j lo hi (less_times_if (less_times_if f s m1) t m2)
  singles-both e g q = q ∙ rw (apply f s m1 e, apply (less_times f s m1) t m2 g, two-times f s t m1 m2)

  pub block-alone : (u : Row) (m3 : Float) → eq m1 zero_f ≡ true → Q ≡ with_column M j lo hi (less_two f t u m2 m3)
      → Q ≡ with_column M j lo hi (less_two (less_times_if f s m1) t u m2 m3)
  block-alone u m3 e q = q ∙ rw (skip f s m1 e)

  pub block-after : (u : Row) (m3 : Float) → eq m1 zero_f ≡ false → Q ≡ with_column M j lo hi (less_three f s t u m1 m2 m3)
      → Q ≡ with_column M j lo hi (less_two (less_times_if f s m1) t u m2 m3)
  block-after u m3 e q = q ∙ rw (apply f s m1 e, three-times f s t u m1 m2 m3)

  pub single-skipped : (u : Row) (m3 : Float) → eq m3 zero_f ≡ true → Q ≡ with_column M j lo hi (less_two f s t m1 m2)
      → Q ≡ with_column M j lo hi (less_times_if (less_two f s t m1 m2) u m3)
  single-skipped u m3 e q = q ∙ rw (skip (less_two f s t m1 m2) u m3 e)

  pub single-after : (u : Row) (m3 : Float) → eq m3 zero_f ≡ false → Q ≡ with_column M j lo hi (less_three f s t u m1 m2 m3)
      → Q ≡ with_column M j lo hi (less_times_if (less_two f s t m1 m2) u m3)
  unfolding less_three
  single-after u m3 e q = q ∙ rw (apply (less_two f s t m1 m2) u m3 e)

-- ---- two pivots by their kinds

module _ (block1 block2 : Bool) (l : ℕ) (next : l ≡ last_of 0 block1 + 1) where
  blocks_at : block1 ≡ true → l ≡ 2
  blocks_at e = omega (arith, last_block 0 block1 e)

  singles-at : block1 ≡ false → l ≡ 1
  singles-at e = omega (arith, last-single 0 block1 e)

  pub blocks-pre : (n j lo hi len : ℕ) → LaterPre n (last_of l block2) j lo hi len → block1 ≡ true → block2 ≡ true → LaterPre n 3 j lo hi len
  blocks-pre n j lo hi len h e g = later-at n (last_of l block2) 3 j lo hi len h (omega (arith, blocks_at e, last_block l block2 g))

  pub block-single-pre : (n j lo hi len : ℕ) → LaterPre n (last_of l block2) j lo hi len → block1 ≡ true → LaterPre n 2 j lo hi len
  block-single-pre n j lo hi len h e = later-at n (last_of l block2) 2 j lo hi len h (omega (arith, blocks_at e, last-from l block2))

  pub single-block-pre : (n j lo hi len : ℕ) → LaterPre n (last_of l block2) j lo hi len → block1 ≡ false → block2 ≡ true → LaterPre n 2 j lo hi len
  single-block-pre n j lo hi len h e g = later-at n (last_of l block2) 2 j lo hi len h (omega (arith, singles-at e, last_block l block2 g))

  pub singles-pre : (n j lo hi len : ℕ) → LaterPre n (last_of l block2) j lo hi len → block1 ≡ false → LaterPre n 1 j lo hi len
  singles-pre n j lo hi len h e = later-at n (last_of l block2) 1 j lo hi len h (omega (arith, singles-at e, last-from l block2))

  module _ (M Q : Mat) (j lo hi : ℕ) (m1 m2 m3 m4 : Float) where
    pub both-blocks : block1 ≡ true → block2 ≡ true
        → Q ≡ with_column M j lo hi (less_four (column_of M j) (column_of M 0) (column_of M 1) (column_of M 2) (column_of M 3) m1 m2 m3 m4)
        → Q ≡ with_column M j lo hi (stepped_twice block1 block2 M 0 l j m1 m2 m3 m4)
    unfolding stepped_twice less_at less_four less_two column_of
    both-blocks e g q = q ∙ rw (e, g, blocks_at e)

    pub block-then-single : block1 ≡ true → block2 ≡ false
        → Q ≡ with_column M j lo hi (less_times_if (less_two (column_of M j) (column_of M 0) (column_of M 1) m1 m2) (column_of M 2) m3)
        → Q ≡ with_column M j lo hi (stepped_twice block1 block2 M 0 l j m1 m2 m3 m4)
    unfolding stepped_twice less_at less_times_if less_two column_of
    block-then-single e g q = q ∙ rw (e, g, blocks_at e)

    pub single-then-block : block1 ≡ false → block2 ≡ true
        → Q ≡ with_column M j lo hi (less_two (less_times_if (column_of M j) (column_of M 0) m1) (column_of M 1) (column_of M 2) m3 m4)
        → Q ≡ with_column M j lo hi (stepped_twice block1 block2 M 0 l j m1 m2 m3 m4)
    unfolding stepped_twice less_at less_times_if less_two column_of
    single-then-block e g q = q ∙ rw (e, g, singles-at e)

    pub both-singles : block1 ≡ false → block2 ≡ false
        → Q ≡ with_column M j lo hi (less_times_if (less_times_if (column_of M j) (column_of M 0) m1) (column_of M 1) m3)
        → Q ≡ with_column M j lo hi (stepped_twice block1 block2 M 0 l j m1 m2 m3 m4)
    unfolding stepped_twice less_at less_times_if column_of
    both-singles e g q = q ∙ rw (e, g, singles-at e)

-- ---- what a pivot's part goes by

-- a pivot's part is that of its own columns
pub less-same : (block : Bool) (r s : ℕ → Float) (k : ℕ) (m1 m2 x : Float) → ((b : ℕ) → k ≤ b → b ≤ last_of k block → r b ≡ s b)
    → less_at block r k m1 m2 x ≡ less_at block s k m1 m2 x
unfolding less_at last_of
less-same true r s k m1 m2 x h = rw (h k (omega arith) (omega arith), h (k + 1) (omega arith) (omega arith))
less-same false r s k m1 m2 x h = rw (h k (omega arith) (omega arith))

-- and by the multipliers that were read: of one pivot, and of two
pub first-turn : (M Q : Mat) (block : Bool) (k j lo n : ℕ) (m1 m2 w1 w2 : Float) → m1 ≡ w1 → m2 ≡ w2 → Q ≡ with_column M j lo n (stepped block M k j m1 m2)
    → Q ≡ with_column M j lo n (stepped block M k j w1 w2)
first-turn M Q block k j lo n m1 m2 w1 w2 e1 e2 q = q ∙ rw (e1, e2)

pub both-turn : (M Q : Mat) (block1 block2 : Bool) (k l j lo n : ℕ) (m1 m2 m3 m4 w1 w2 w3 w4 : Float) → m1 ≡ w1 → m2 ≡ w2 → m3 ≡ w3 → m4 ≡ w4
    → Q ≡ with_column M j lo n (stepped_twice block1 block2 M k l j m1 m2 m3 m4) → Q ≡ with_column M j lo n (stepped_twice block1 block2 M k l j w1 w2 w3 w4)
both-turn M Q block1 block2 k l j lo n m1 m2 m3 m4 w1 w2 w3 w4 e1 e2 e3 e4 q = q ∙ rw (e1, e2, e3, e4)
