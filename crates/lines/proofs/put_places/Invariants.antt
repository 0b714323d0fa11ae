-- `lines::put_places` meets its contract. The invariant: the first places stand after what was there, in at most 21 bytes each. Assumes nothing.
use Rattle.std.proofs.Common.{◌≡◌, ◌++◌, ◌+◌, ◌*◌, ◌≤◌, length}
use Rattle.lines.specs.Lines.{each, order_field}
use Rattle.lines.proofs.put_places.Given as goal

abbrev pub invariant-loop-place : goal.invariant-loop-place
invariant-loop-place g l = record {
  text : l.out ≡ l.initial.out ++ each (order_field l.order) l.place-index;
  room : length l.out ≤ length l.initial.out + 21 * l.place-index;
}
