-- Laws of the look at the result after the last column: a pivot, a column, and one column more of the loop. Assumes nothing.
use mathlib.Core.Path.{◌≡◌, sym, ◌∙◌}
use mathlib.Core.Bool.{Bool, true, false, ◌&&◌, ◌||◌}
use mathlib.Core.List.{List}
use Prim.Native.Nat.{ℕ, suc, ◌+◌, ◌-◌, ◌<◌, ◌≤◌}
use native.Mathlib.Omega.{arith}
use lib.ListN.{get_or}
use lib.Ieee.{Float, nan}
use Rattle.std.specs.Prelude.{Ok, Err}
use Rattle.model.specs.Scalar.{reciprocal_of, is_finite}
use Rattle.model.specs.Matrix.{Mat, vec, naturals}
use Rattle.model.specs.Step.{Diagonals, diagonals_of, begins, ends_block, block_at}
use Rattle.model.specs.Factor.{pivot_sound, column_sound, result_check}
use Rattle.model.specs.declared.Block.{Block}
use Rattle.model.specs.declared.Refusal.TheVariants.{NotFinite}
use Rattle.model.specs.Answer.{Check}
use Rattle.total.specs.Finite.{column_finite, KnownFinite, PanelPre}
use Rattle.scan.proofs.Finite.{known-column}
use Rattle.soundness.specs.Result.{block_sound}

-- ---- a pivot

pub block-is : (b : Block) (q : Float) (s t : Bool) → s ≡ is_finite b.det → q ≡ reciprocal_of b.det → t ≡ is_finite q → s && t ≡ block_sound b
unfolding block_sound
block-is b q s t f e g = rw (f, g, e)

module _ (ds subs : List Float) (bs : List ℕ) (k : ℕ) (t : Bool) (e : t ≡ begins (naturals bs) k) where
  pub pivot-two : (b : Block) (r : Bool) → t ≡ true → b ≡ block_at (vec ds) (vec subs) k → r ≡ block_sound b → r ≡ pivot_sound (diagonals_of ds subs bs) k
  unfolding pivot_sound block_sound
  pivot-two b r z h g = rw (sym e ∙ z) (g ∙ rw h)

  pub pivot-one : (u f : Bool) (q : Float) → t ≡ false → u ≡ ends_block (naturals bs) k → q ≡ reciprocal_of (get_or ds k nan) → f ≡ is_finite q
      → u || f ≡ pivot_sound (diagonals_of ds subs bs) k
  unfolding pivot_sound vec
  pivot-one u f q z h g i = rw (sym e ∙ z, h, i, g)

-- ---- a column

pub column-known : (nrow ncol k len : ℕ) (a : Mat) (b : Bool) → PanelPre nrow ncol len → KnownFinite b a nrow ncol → b ≡ true → k < ncol
    → true ≡ column_finite a k k ncol
column-known nrow ncol k len a b h w e l = known-column a b nrow ncol k k ncol w e l (omega arith) h.rows

pub column-is : (a : Mat) (ds subs : List Float) (bs : List ℕ) (ncol k : ℕ) (e f p w : Bool) → e ≡ is_finite (get_or ds k nan) → f ≡ is_finite (get_or subs k nan)
    → p ≡ pivot_sound (diagonals_of ds subs bs) k → w ≡ column_finite a k k ncol → e && (f && (p && w)) ≡ column_sound ncol (diagonals_of ds subs bs) a k
unfolding column_sound column_finite vec
column-is a ds subs bs ncol k e f p w g h i j = rw (g, h, i, j)

-- ---- the columns in turn: t is the answer for column k

pub result-none : (ncol : ℕ) (D : Diagonals) (a : Mat) → result_check ncol D a (ncol - 0) 0 ≡ result_check ncol D a ncol 0
result-none ncol D a = let all : ncol - 0 ≡ ncol = omega arith in rw all

module _ (ncol : ℕ) (D : Diagonals) (a : Mat) (k : ℕ) (R : Check) where
  result-one : k < ncol → result_check ncol D a (ncol - k) k ≡ result_check ncol D a (suc (ncol - (k + 1))) k
  result-one h = let e : ncol - k ≡ suc (ncol - (k + 1)) = omega arith in rw e

  pub result-step : (t : Bool) → k < ncol → t ≡ column_sound ncol D a k → t ≡ true → result_check ncol D a (ncol - k) k ≡ R
      → result_check ncol D a (ncol - (k + 1)) (k + 1) ≡ R
  unfolding result_check
  result-step t h e n r = sym (result-one h ∙ rw (sym e ∙ n)) ∙ r

  pub result-found : (t : Bool) → k < ncol → t ≡ column_sound ncol D a k → t ≡ false → result_check ncol D a (ncol - k) k ≡ R
      → Err (NotFinite (record { 0 = k })) ≡ R
  unfolding result_check
  result-found t h e n r = sym (result-one h ∙ rw (sym e ∙ n)) ∙ r

  pub result-end : ncol ≤ k → result_check ncol D a (ncol - k) k ≡ R → Ok tt ≡ R
  unfolding result_check
  result-end h r = let e : ncol - k ≡ 0 = omega arith in sym (rw e) ∙ r
