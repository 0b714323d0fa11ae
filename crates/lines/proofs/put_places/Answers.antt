-- What `lines::put_places` owes at its loop. Assumes nothing.
use native.Mathlib.Omega.{arith}
use Rattle.lines.proofs.Laws.{each_none, places-step}
use Rattle.lines.proofs.put_places.Goals as goal

pub loop-place-init : goal.loop-place-init
loop-place-init g c = record { text = each_none _ _; room = omega arith }

pub loop-place-preserved : goal.loop-place-preserved
loop-place-preserved g c = record { text = places-step _ _ _ _ c.loop-place.invariant.text c.put_field.ensures.writes; room = omega arith }
