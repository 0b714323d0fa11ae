-- `lines::put_pivots` meets its contract. The invariant: the first k lines stand after what was there, in at most 141 bytes each. Assumes nothing.
use Rattle.std.proofs.Common.{◌≡◌, ◌++◌, ◌+◌, ◌*◌, ◌≤◌, length}
use Rattle.lines.specs.Lines.{each}
use Rattle.lines.specs.Left.{pivot_in}
use Rattle.lines.proofs.put_pivots.Given as goal

abbrev pub invariant-loop-k : goal.invariant-loop-k
invariant-loop-k g l = record {
  text : l.out ≡ l.initial.out ++ each (pivot_in l.p) l.k;
  room : length l.out ≤ length l.initial.out + 141 * l.k;
}
