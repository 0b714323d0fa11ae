-- Laws of the buffers of the stated lengths: parts of local arrays. Assumes nothing.
use mathlib.Core.Path.{◌≡◌, refl}
use mathlib.Core.List.{List}
use Prim.Native.Nat.{ℕ, zero, suc, ◌-◌, ◌*◌, ◌≤◌}
use native.Mathlib.Omega.{arith}
use borrow.Rule.Slice.PartMut.{mid_of}
use lib.ListN.{take, replicate}
use lib.Ieee.{Float}
use Rattle.model.specs.Scalar.{zero_f}
use Rattle.model.specs.Factor.{work_length, factor_of}
use Rattle.model.specs.declared.Settings.{Settings}
use Rattle.answer.specs.Lines.{outcome_lines, cleared}

-- ---- the first part of an array

take-replicate : {A : Type 0} (n m : ℕ) (v : A) → n ≤ m → take n (replicate m v) ≡ replicate n v
take-replicate zero m v h = refl
take-replicate (suc n) zero v h = absurd (omega arith)
take-replicate (suc n) (suc m) v h = rw (take-replicate n m v (omega arith))

pub part-clear : {A : Type 0} (n e m : ℕ) (v : A) → e ≡ n → e ≤ m → mid_of 0 e (replicate m v) ≡ replicate n v
part-clear n e m v q h = rw q (take-replicate n m v (omega arith))

pub cleared-is : {xs : List ℕ} (c : Settings) (input : List Float) {panel d sub amounts work : List Float} {blocks lifts tests order marks : List ℕ}
    → panel ≡ replicate (c.nrow * c.ncol) zero_f → d ≡ replicate c.ncol zero_f → sub ≡ replicate c.ncol zero_f → blocks ≡ replicate c.ncol 0
    → lifts ≡ replicate c.ncol 0 → amounts ≡ replicate c.ncol zero_f → tests ≡ replicate c.ncol 0
    → order ≡ replicate c.nrow 0 → marks ≡ replicate (c.nrow - c.ncol) 0
    → work ≡ replicate (work_length c.nrow c.nb) zero_f
    → xs ≡ outcome_lines c (factor_of c input (record {
      panel = panel;
      d = d;
      sub = sub;
      blocks = blocks;
      lifts = lifts;
      amounts = amounts;
      tests = tests;
      order = order;
      marks = marks;
      work = work;
    }))
    → xs ≡ outcome_lines c (factor_of c input (cleared c))
unfolding cleared
cleared-is c input ep ed es eb el ea et eo em ew w = rw (ep, ed, es, eb, el, ea, et, eo, em, ew) at w
