-- Laws of what a column loses, as the loop takes it. Assumes nothing.
use mathlib.Core.Path.{◌≡◌}
use mathlib.Core.List.{List}
use Prim.Native.Nat.{ℕ, suc, ◌+◌, ◌-◌, ◌≤◌, ◌<◌}
use native.Mathlib.Omega.{arith}
use lib.ListN.{length, get_or, set}
use lib.Ieee.{Float, nan}
use Rattle.model.specs.Scalar.{◌⊖◌}
use Rattle.model.specs.Matrix.{Row, Mat, column_start, view, naturals}
use Rattle.grid.specs.Grid.{In}
use Rattle.grid.proofs.Laws.{own-set}
use Rattle.update_rows.specs.Apply.{less_at, less_from, SubtractPre}

pub less-set : (n : ℕ) (xs : List Float) (i j s : ℕ) (x : Float) → s ≡ column_start n j → In n i j (length xs)
    → view n (set xs (i + s) (get_or xs (i + s) nan ⊖ x)) ≡ less_at (view n xs) i j x
unfolding less_at
less-set n xs i j s x at h = rw at (own-set n xs i j (λ y. y ⊖ x) h)

module _ (places : ℕ → ℕ) (acc : Row) (j hi : ℕ) where
  pub less-step : (r : ℕ) (a b w : Mat) (p : ℕ) (x : Float) → r < hi → p ≡ places r → x ≡ acc r → b ≡ less_at a p j x
      → less_from places acc j (hi - r) r a ≡ w → less_from places acc j (hi - (r + 1)) (r + 1) b ≡ w
  unfolding less_from
  less-step r a b w p x h e f g v = let m : hi - r ≡ suc (hi - (r + 1)) = omega arith in rw (g, e, f) (rw m at v)

  pub less-end : (r : ℕ) (a w : Mat) → hi ≤ r → less_from places acc j (hi - r) r a ≡ w → a ≡ w
  unfolding less_from
  less-end r a w h v = let m : hi - r ≡ 0 = omega arith in rw m at v

pub subtract-place : (n j : ℕ) (places : List ℕ) (lo hi panel acc r len : ℕ) → SubtractPre n j places lo hi panel acc → lo ≤ r → r < hi → len ≡ panel
    → In n (naturals places r) j len
subtract-place n j places lo hi panel acc r len w l h e = rw e (w.inside r l h)
