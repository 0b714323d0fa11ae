-- What `lines::put_entries` owes at its loop. Assumes nothing.
use native.Mathlib.Omega.{arith}
use Rattle.lines.proofs.Laws.{each_none, entries-step}
use Rattle.lines.proofs.put_entries.Goals as goal

pub loop-j-init : goal.loop-j-init
loop-j-init g c = record { text = each_none _ _; room = omega arith }

pub loop-j-preserved : goal.loop-j-preserved
loop-j-preserved g c = record { text = entries-step _ _ _ _ _ _ _ c.get.ensures c.loop-j.invariant.text c.put_number.ensures.writes; room = omega arith }
