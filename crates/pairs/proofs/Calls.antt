-- What the calls ask, from what their caller is asked, and the pivots' own columns. Assumes nothing.
use Prim.Native.Nat.{ℕ, ◌+◌, ◌-◌, ◌<◌}
use mathlib.Core.Path.{◌≡◌, ◌∙◌, ap}
use mathlib.Core.Bool.{Bool, true, false}
use native.Mathlib.Omega.{arith}
use lib.Ieee.{Float}
use mir.Syntax.{w64}
use mir.Val.{Fits}
use Rattle.model.specs.Scalar.{reciprocal_of}
use Rattle.model.specs.Matrix.{Mat, with_column}
use Rattle.model.specs.Step.{is_block}
use Rattle.model.specs.Head.{last_of}
use Rattle.model.specs.declared.Block.{Block}
use Rattle.model.specs.declared.Diagonal.{Diagonal}
use Rattle.model.specs.declared.Diagonal.TheVariants.{One, Two}
use Rattle.kernels.specs.Rules.{times, combined}
use Rattle.grid.specs.Rules.{column_of, RowsPre, ExchangePre}
use Rattle.swept.specs.Swept.{PairPre}
use Rattle.swept.specs.declared.Pair.{Pair}
use Rattle.swept.proofs.Sweeps.{placed, exchange-in, own_in}
use Rattle.pairs.specs.Pairs.{own_by, SweepPre}

-- ---- two pivots: the exchanges, the first pivot's sweep and the own columns, whatever has been written since

module _ {pair : Pair} {len len_m : ℕ} (pre : PairPre pair len len_m) (len' : ℕ) (same : len' ≡ len) where
  pub first-exchange : (kp : ℕ) → kp < pair.at.columns → ExchangePre pair.at.nrow (pair.l - 1) kp 0 pair.at.rows len'
  first-exchange kp h = let p = placed pre in exchange-in pre.frame (pair.l - 1) kp len' (omega arith) h same

  pub first-sweep : (block : Bool) → block ≡ pair.block1 → SweepPre block pair.at pair.l (pair.f + 1) pair.f pair.kq len' len_m
  first-sweep block b =
      let p = placed pre in
      record {
        frame = rw same pre.frame;
        past = omega (arith, pre.next, ap (last_of 0) b);
        up = omega arith;
        end = omega arith;
        one = p.last;
        other = pre.row;
      }

  pub first-own : RowsPre pair.at.nrow (last_of 0 pair.block1) 0 pair.at.rows len'
  first-own = let p = placed pre in own_in pre.frame (last_of 0 pair.block1) len' (omega (arith, pre.next)) same

-- ---- a pivot's own columns

pub rows-two : (n k lo hi len : ℕ) (x : Diagonal) (b : Block) → x ≡ Two b → RowsPre n (last_of k (is_block x)) lo hi len → RowsPre n (k + 1) lo hi len
unfolding last_of
rows-two n k lo hi len x b e h = rw e at h

pub fits-two : (k : ℕ) (x : Diagonal) (b : Block) → x ≡ Two b → Fits w64 (last_of k (is_block x)) → Fits w64 (k + 1)
unfolding last_of
fits-two k x b e h = rw e at h

-- the last column of a pivot at column 0, and of one at l, is a number of the machine
pub first_fits : (b : Bool) → Fits w64 (last_of 0 b)
unfolding last_of
first_fits true = record { fits = omega arith }
first_fits false = record { fits = omega arith }

pub rows-one : (n k lo hi len : ℕ) (x : Diagonal) (d : Float) → x ≡ One d → RowsPre n (last_of k (is_block x)) lo hi len → RowsPre n k lo hi len
unfolding last_of
rows-one n k lo hi len x d e h = rw e at h

pub own-two : (M Q : Mat) (k lo hi : ℕ) (x : Diagonal) (b : Block) (r : Float) → x ≡ Two b → r ≡ reciprocal_of b.det
    → Q
    ≡ with_column (with_column M k lo hi (combined (column_of M k) (column_of M (k + 1)) b.d22 b.d21 r)) (k + 1) lo hi
    (combined (column_of M (k + 1)) (column_of M k) b.d11 b.d21 r)
    → Q ≡ own_by M k lo hi x
unfolding own_by
own-two M Q k lo hi x b r e g q = q ∙ rw (e, g)

pub own-one : (M Q : Mat) (k lo hi : ℕ) (x : Diagonal) (d r : Float) → x ≡ One d → r ≡ reciprocal_of d
    → Q ≡ with_column M k lo hi (times (column_of M k) r) → Q ≡ own_by M k lo hi x
unfolding own_by
own-one M Q k lo hi x d r e g q = q ∙ rw (e, g)
