-- `scalar::lift` meets its contract. Assumes nothing.
use mathlib.Core.Path.{sym}
use Rattle.model.specs.Scalar.{lift_of}
use Rattle.scalar.proofs.lift.Goals as goal

pub returns-then-m-floor : goal.returns-then-m-floor
unfolding lift_of
returns-then-m-floor c = simp (sym c.magnitude-m.ensures, c.if-m-floor.true)

pub returns-then-m : goal.returns-then-m
unfolding lift_of
returns-then-m c = simp (sym c.magnitude-m.ensures, c.if-m-floor.false, c.if-m.true)

pub returns : goal.returns
unfolding lift_of
returns c = simp (sym c.magnitude-m.ensures, c.if-m-floor.false, c.if-m.false)
