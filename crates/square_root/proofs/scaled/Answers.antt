-- `square_root::scaled` meets its contract. Assumes nothing.
use mathlib.Core.Path.{sym, ◌∙◌, subst}
use mathlib.Core.Bool.{Bool, not}
use Prim.Native.Nat.{◌/◌}
use native.Mathlib.Omega.{arith}
use lib.Dec.{T}
use Rattle.model.proofs.Root.{units-no-nan, units-bits}
use Rattle.square_root.proofs.Steps.{halved-even, halved-odd}
use Rattle.square_root.proofs.scaled.Goals as goal
use Rattle.square_root.proofs.scaled.Goals.{then-e-eq0, else-e-eq0}

pub float_from_bits-result : goal.float_from_bits-result
float_from_bits-result c = let near = c.near_root.ensures in
    subst (λ (b : Bool). T (not b)) (sym (units-no-nan _ (c.args.e / 2) near.from near.to (omega arith))) tt

pub returns : goal.returns
returns c = let near = c.near_root.ensures in
    let e = c.args.e in
    units-bits _ (e / 2) near.from near.to (omega arith)
    ∙ sym (elim c.if-e-eq0.branch [ then-e-eq0 w ↦ halved-even e near w.if-e-eq0.true w.d-is | else-e-eq0 w ↦ halved-odd _ e near w.if-e-eq0.false w.d-is ])
