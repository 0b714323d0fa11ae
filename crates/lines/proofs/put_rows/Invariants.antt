-- `lines::put_rows` meets its contract. The invariant: the first i lines stand after what was there, in at most 318 bytes each. Assumes nothing.
use Rattle.std.proofs.Common.{◌≡◌, ◌++◌, ◌+◌, ◌*◌, ◌≤◌, length}
use Rattle.lines.specs.Lines.{each}
use Rattle.lines.specs.Left.{row_in}
use Rattle.lines.proofs.put_rows.Given as goal

abbrev pub invariant-loop-i : goal.invariant-loop-i
invariant-loop-i g l = record {
  text : l.out ≡ l.initial.out ++ each (row_in l.r) l.i;
  room : length l.out ≤ length l.initial.out + 318 * l.i;
}
