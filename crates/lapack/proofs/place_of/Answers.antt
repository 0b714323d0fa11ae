-- What `lapack::place_of` owes. Assumes nothing.
use Rattle.lapack.proofs.ToWalk.{place_step, place_here, place-end}
use Rattle.lapack.proofs.place_of.Goals as goal

pub loop-p-preserved : goal.loop-p-preserved
loop-p-preserved c = place_step _ _ _ _ c.loop-p-test.true c.if-rows-p.false c.loop-p.invariant

pub returns-then-rows-p : goal.returns-then-rows-p
returns-then-rows-p c = place_here _ _ _ _ c.loop-p-test.true c.if-rows-p.true c.loop-p.invariant

pub returns : goal.returns
returns c = place-end _ _ _ _ c.loop-p-test.false (c.loop-p.auto.p-end c.requires) c.loop-p.invariant
