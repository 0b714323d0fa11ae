-- Laws of what the sum tells: where it is finite every lower position is; a panel's columns, one by one.
-- Assumes nothing.
use Prim.Native.Nat.{ℕ, ◌+◌, ◌-◌, ◌<◌}
use mathlib.Core.Path.{◌≡◌, sym, ◌∙◌, ap}
use mathlib.Core.Bool.{Bool, true}
use native.Mathlib.Omega.{arith}
use Rattle.model.specs.Scalar.{zero_f, is_finite}
use Rattle.model.specs.Matrix.{Mat}
use Rattle.model.proofs.Every.{every_of}
use Rattle.total.specs.Finite.{column_sum, sum_finite, column_finite, lower_finite, KnownFinite}
use Rattle.total.proofs.Sums.{sum-term, of-term}

-- where the pass answers yes, every lower position is finite
pub sum-known : (a : Mat) (n c : ℕ) (b : Bool) → b ≡ sum_finite a n c → KnownFinite b a n c
unfolding sum_finite column_sum lower_finite column_finite
sum-known a n c b e =
    let column : (j : ℕ) → j < c → b ≡ true → is_finite (column_sum a n j) ≡ true =
    λ j h y. ap (λ (i : ℕ). is_finite (column_sum a n i)) (omega arith) ∙ sum-term (column_sum a n) 0 c zero_f j (sym e ∙ y) h in
    record {
      all =
          λ y. every_of (λ j. column_finite a j j n) c 0 (λ j h.
          every_of (λ i. is_finite (a i (0 + j))) (n - (0 + j)) (0 + j) (λ k g.
          of-term (λ i. a (0 + j + i) (0 + j)) (n - (0 + j)) k (column (0 + j) (omega arith) y) g));
    }
