-- Laws of what is noted of a pivot. Assumes nothing.
use Prim.Native.Nat.{ℕ}
use mathlib.Core.Path.{◌≡◌, ◌∙◌, ap}
use mathlib.Core.Bool.{Bool, true, false}
use Rattle.std.specs.Prelude.{Option, Some, None, is_some}
use Rattle.std.specs.Int.{from_bool}
use Rattle.std.specs.Option.{unwrap_or}
use lib.Ieee.{Float}
use Rattle.model.specs.Scalar.{zero_f}
use Rattle.model.specs.Matrix.{Row, put, swapped}
use Rattle.model.specs.Choice.{test_number}
use Rattle.model.specs.Step.{Pivots, is_block, first_number, last_number, under_number}
use Rattle.model.specs.Head.{byte_of, lift_byte, lift_amount, noted}
use Rattle.model.specs.declared.Pivot.{Pivot}

-- ---- stores

-- two exchanges, one after the other
pub swapped-twice : (f g h : ℕ → ℕ) (k p e kp : ℕ) → g ≡ swapped f k p → h ≡ swapped g e kp → h ≡ swapped (swapped f k p) e kp
swapped-twice f g h k p e kp x y = y ∙ rw x

-- ---- the record

pub block-byte : (b t : Bool) (n : ℕ) → t ≡ b → n ≡ from_bool t → n ≡ byte_of b
block-byte true t n e h = h ∙ ap from_bool e
block-byte false t n e h = h ∙ ap from_bool e

pub lift-told : (o : Option Float) (b : Bool) (n : ℕ) → b ≡ is_some o → n ≡ from_bool b → n ≡ lift_byte o
lift-told None b n e h = h ∙ ap from_bool e
lift-told (Some x) b n e h = h ∙ ap from_bool e

pub amount-told : (o : Option Float) (x : Float) → x ≡ unwrap_or o zero_f → x ≡ lift_amount o
amount-told None x h = h
amount-told (Some y) x h = h

pub noted-is : (s : Pivots) (d' sub' : Row) (bl' pa' li' : ℕ → ℕ) (am' : Row) (te' or' : ℕ → ℕ) (k e : ℕ) (v : Pivot)
    → d' ≡ put (put s.diagonals.d e (last_number v.diagonal)) k (first_number v.diagonal)
    → sub' ≡ put (put s.diagonals.sub e zero_f) k (under_number v.diagonal)
    → bl' ≡ put (put s.diagonals.blocks e 0) k (byte_of (is_block v.diagonal))
    → pa' ≡ put (put s.partners e v.chosen.p.0) k v.chosen.kp.0
    → li' ≡ put (put s.notes.lifts e (lift_byte v.lift)) k (lift_byte v.lift)
    → am' ≡ put (put s.notes.amounts e (lift_amount v.lift)) k (lift_amount v.lift)
    → te' ≡ put (put s.notes.tests e (test_number v.chosen.test)) k (test_number v.chosen.test)
    → or' ≡ swapped (swapped s.notes.order k v.chosen.p.0) e v.chosen.kp.0
    → record {
      diagonals = record { d = d'; sub = sub'; blocks = bl' };
      partners = pa';
      notes = record { lifts = li'; amounts = am'; tests = te'; order = or' };
    } ≡ noted s k e v
unfolding noted
noted-is s d' sub' bl' pa' li' am' te' or' k e v h1 h2 h3 h4 h5 h6 h7 h8 = rw (h1, h2, h3, h4, h5, h6, h7, h8)
