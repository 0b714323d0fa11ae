-- What `lines::put_rows` owes at its loop. Assumes nothing.
use native.Mathlib.Omega.{arith}
use Rattle.lines.proofs.Laws.{each_none, each_step}
use Rattle.lines.proofs.put_rows.Goals as goal

pub loop-i-init : goal.loop-i-init
loop-i-init g c = record { text = each_none _ _; room = omega arith }

pub loop-i-preserved : goal.loop-i-preserved
loop-i-preserved g c = record { text = each_step _ _ _ _ c.loop-i.invariant.text c.put_row.ensures.writes; room = omega arith }
