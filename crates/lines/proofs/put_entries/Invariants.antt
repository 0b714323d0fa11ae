-- `lines::put_entries` meets its contract. The invariant: the first j numbers stand after what was there, in 17 bytes each. Assumes nothing.
use Rattle.std.proofs.Common.{◌≡◌, ◌++◌, ◌+◌, ◌*◌, length}
use Rattle.lines.specs.Lines.{each, entry_field}
use Rattle.lines.proofs.put_entries.Given as goal

abbrev pub invariant-loop-j : goal.invariant-loop-j
invariant-loop-j g l = record {
  text : l.out ≡ l.initial.out ++ each (entry_field l.r.nrow l.r.panel.now l.i) l.j;
  room : length l.out ≡ length l.initial.out + 17 * l.j;
}
