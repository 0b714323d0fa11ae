-- What `landing::locate` owes. Assumes nothing.
use mathlib.Core.Path.{refl}
use Prim.Native.Nat.{◌+◌}
use native.Mathlib.Omega.{arith}
use lib.ListN.{length, set}
use Rattle.model.specs.Matrix.{naturals}
use Rattle.landing.proofs.Order.{Locating, locating-step, locating-bad, locating-end}
use Rattle.landing.proofs.locate.Goals.{In-Some}
use Rattle.landing.proofs.locate.Goals as goal

-- a turn that goes on keeps the invariant
step : (c : In-Some)
    → Locating c.args.rows.now c.args.krows.now c.args.start (length c.args.places.now)
    (set c.loop-i.places c.loop-i.i c.in-Some.found.0) (c.in-Some.found.0 + 1) (c.loop-i.i + 1)
unfolding naturals
step c =
    locating-step _ _ _ _ _ c.requires _ _ _ c.loop-i.invariant c.loop-i-test.true c.in-Some.ensures.place
    (λ x. omega (arith, c.in-Some.ensures.inside))

pub returns-in_default-clause-value : goal.returns-in_default-clause-value
unfolding naturals
returns-in_default-clause-value c =
    locating-bad _ _ _ _ _ c.requires _ _ _ c.loop-i.invariant c.loop-i-test.true c.in_default.ensures.place refl

pub loop-i-preserved : goal.loop-i-preserved
loop-i-preserved c = step (goal.at.loop-i-preserved c).In-Some

pub returns-clause-value : goal.returns-clause-value
returns-clause-value c = locating-end _ _ _ _ _ c.requires _ _ c.loop-i.invariant c.loop-i-test.false
