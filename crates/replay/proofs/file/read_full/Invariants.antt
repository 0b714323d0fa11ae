-- What was read fits the place. The measure is what is left of the place.
use Rattle.std.proofs.Common.{◌≤◌, ◌-◌, length}
use Rattle.replay.proofs.file.read_full.Given as goal

abbrev pub invariant-loop-done : goal.invariant-loop-done
invariant-loop-done l = l.done ≤ length l.place

abbrev pub decreases-loop-done : goal.decreases-loop-done
decreases-loop-done l = length l.place - l.done
