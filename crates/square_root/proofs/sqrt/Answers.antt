-- `square_root::sqrt` meets its contract: the special cases by the argument's bits, a normal number by its digits and its exponent's field, a subnormal by
-- its digits moved up until there are 53. Assumes nothing.
use mathlib.Core.Path.{◌≡◌, sym, ap, ◌∙◌}
use Prim.Native.Nat.{◌%◌, ◌^◌}
use native.Mathlib.Omega.{arith}
use lib.Dec.{T}
use lib.Ieee.{Float, binary64, fits, of_bits, to_bits}
use lib.Ieee.Bits.{of_bits-to_bits, to_bits-lt}
use denote.Floats.{passes}
use Rattle.model.specs.Root.{round_root}
use Rattle.model.proofs.Root.{sqrt-at-nan, sqrt-at-zero, sqrt-at-minus-zero, sqrt-at-top, sqrt-at-negative, sqrt-at-low, sqrt-at-normal}
use Rattle.scalar.proofs.Leaves.{nan-made, is-nan, no_nan}
use Rattle.square_root.proofs.Steps.{moved}
use Rattle.square_root.proofs.sqrt.Goals as goal

-- the argument is what its own bits stand for
back : (x : Float) → T (fits binary64 x) → x ≡ of_bits binary64 (to_bits binary64 x)
back x f = sym (of_bits-to_bits binary64 x f)

pub returns-then-x : goal.returns-then-x
returns-then-x c = sqrt-at-nan (is-nan _ c.if-x.true)

pub float_to_bits-b : goal.float_to_bits-b
float_to_bits-b c = no_nan _ c.if-x.false

pub returns-then-b-eq0 : goal.returns-then-b-eq0
returns-then-b-eq0 c = sqrt-at-zero (back _ (passes _ c.well_formed.0.1) ∙ ap (of_bits binary64) c.if-b-eq0.true)

pub returns-then-b : goal.returns-then-b
returns-then-b c = sqrt-at-minus-zero (back _ (passes _ c.well_formed.0.1) ∙ ap (of_bits binary64) c.if-b.true)

pub returns-then-b-gt9223372036854775808 : goal.returns-then-b-gt9223372036854775808
returns-then-b-gt9223372036854775808 c = nan-made ∙ sym (sqrt-at-negative _ _ (back _ (passes _ c.well_formed.0.1)) c.if-b-gt9223372036854775808.true (to_bits-lt binary64 c.args.x (passes _ c.well_formed.0.1)))

pub returns-then-b-ge9218868437227405312 : goal.returns-then-b-ge9218868437227405312
returns-then-b-ge9218868437227405312 c = sqrt-at-top _ _ (back _ (passes _ c.well_formed.0.1)) c.if-b-ge9218868437227405312.true (omega arith)

pub overflow_sub-s : goal.overflow_sub-s
overflow_sub-s c = (moved (to_bits binary64 c.args.x % 2 ^ 52) _ c.from-s.ensures (omega arith) (omega arith)).some

pub scaled-requires : goal.scaled-requires
scaled-requires c = let up = moved (to_bits binary64 c.args.x % 2 ^ 52) _ c.from-s.ensures (omega arith) (omega arith) in
    record { from = up.from; to = up.to; exponent = omega arith }

pub returns-then-field-eq0 : goal.returns-then-field-eq0
returns-then-field-eq0 c = let up = moved (to_bits binary64 c.args.x % 2 ^ 52) _ c.from-s.ensures (omega arith) (omega arith) in
    c.scaled.ensures ∙ ap round_root up.root ∙ sym (sqrt-at-low _ _ (back _ (passes _ c.well_formed.0.1)) (omega arith) c.if-field-eq0.true)

pub returns-else-field-eq0 : goal.returns-else-field-eq0
returns-else-field-eq0 c = c.scaled-else-field-eq0.ensures ∙ sym (sqrt-at-normal _ _ (back _ (passes _ c.well_formed.0.1)) c.if-b-ge9218868437227405312.false c.if-field-eq0.false)
