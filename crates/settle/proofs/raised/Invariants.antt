-- `settle::raised` meets its contract. The loop's invariant: what the rounds left find from here is what all rounds find from the start.
-- Assumes nothing.
use Rattle.settle.proofs.Laws.{Left}
use Rattle.settle.proofs.raised.Given as goal

abbrev pub invariant-loop-done : goal.invariant-loop-done
invariant-loop-done l = Left l.b l.bar l.step l.limit l.done l.sum
