-- Laws of the block bytes and of a pivot read off the lists, by the test that reads a byte. Assumes nothing.
use Rattle.std.specs.Int.{from_bool}
use mathlib.Core.Path.{◌≡◌, sym, ◌∙◌, ap}
use mathlib.Core.Bool.{Bool, true, false}
use mathlib.Core.List.{List}
use Prim.Native.Nat.{ℕ, ◌+◌, ◌-◌}
use native.Mathlib.Omega.{arith}
use borrow.Author.Tests.{lt-ltb}
use lib.Dec.{eqb}
use lib.ListN.{get_or}
use lib.Ieee.{Float, nan}
use Rattle.model.specs.Matrix.{vec, naturals}
use Rattle.model.specs.Step.{begins, ends_block, past_of, block_at, diagonal_at}
use Rattle.model.specs.Head.{last_of}
use Rattle.model.specs.declared.Block.{Block}
use Rattle.model.specs.declared.Diagonal.TheVariants.{One, Two}

-- ---- a block's second column

pub ends-later : (bs : List ℕ) (k : ℕ) → (k ≡ 0 → ⊥) → eqb (get_or bs (k - 1) 0) 1 ≡ ends_block (naturals bs) k
unfolding naturals
ends-later bs k n = rw (lt-ltb 0 k (omega arith))

-- ---- by whether a block begins at k

module _ (f : ℕ → ℕ) (k : ℕ) (t : Bool) (e : t ≡ begins f k) where
  pub past-block : t ≡ true → k + 2 ≡ past_of f k
  unfolding past_of
  past-block z = rw (sym e ∙ z)

  pub past-single : t ≡ false → k + 1 ≡ past_of f k
  unfolding past_of
  past-single z = rw (sym e ∙ z)

-- the pivot at k
module _ (ds subs : List Float) (bs : List ℕ) (k : ℕ) (t : Bool) (e : t ≡ begins (naturals bs) k) where
  pub two_at : (b : Block) → t ≡ true → b ≡ block_at (vec ds) (vec subs) k → Two b ≡ diagonal_at (vec ds) (vec subs) (naturals bs) k
  unfolding diagonal_at
  two_at b z h = rw (sym e ∙ z, h)

  pub one_at : t ≡ false → One (get_or ds k nan) ≡ diagonal_at (vec ds) (vec subs) (naturals bs) k
  unfolding diagonal_at vec
  one_at z = rw (sym e ∙ z)

-- ---- the last column

pub last_by : (k n : ℕ) (b : Bool) → n ≡ from_bool b → k + n ≡ last_of k b
unfolding last_of
last_by k n true e = ap (λ (i : ℕ). k + i) e
last_by k n false e = omega (arith, e)
