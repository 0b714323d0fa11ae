-- What was read stands at the start of the place. The measure is what is left of the place.
use Rattle.std.proofs.Common.{◌≡◌, ◌≤◌, ◌-◌, length, take}
use Rattle.std.specs.Io.KnownBytes.{Consumes}
use Rattle.node.proofs.read_full.Given as goal

abbrev pub invariant-loop-done : goal.invariant-loop-done
invariant-loop-done g l =
    (length l.place ≡ length l.initial.place) × (l.done ≤ length l.place)
    × Consumes (g.R.Read.remaining l.initial.reader) (g.R.Read.remaining l.reader) (take l.done l.place)

abbrev pub decreases-loop-done : goal.decreases-loop-done
decreases-loop-done g l = length l.place - l.done
