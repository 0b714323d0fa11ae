-- What `lines::put_pivots` owes at its loop. Assumes nothing.
use native.Mathlib.Omega.{arith}
use Rattle.lines.proofs.Laws.{each_none, each_step}
use Rattle.lines.proofs.put_pivots.Goals as goal

pub loop-k-init : goal.loop-k-init
loop-k-init g c = record { text = each_none _ _; room = omega arith }

pub loop-k-preserved : goal.loop-k-preserved
loop-k-preserved g c = record { text = each_step _ _ _ _ c.loop-k.invariant.text c.put_pivot.ensures.writes; room = omega arith }
