-- `lapack::read_pivots` meets its contract. The invariant: going on from k arranges what the whole walk arranges. The measure is the columns left.
-- Assumes nothing.
use Prim.Native.Nat.{◌-◌, ◌≤◌}
use mathlib.Core.Path.{◌≡◌}
use lib.ListN.{length}
use Rattle.model.specs.Lapack.{integers, walk, pivot_read, arranged_of}
use Rattle.lapack.specs.Walks.{arranged}
use Rattle.lapack.proofs.read_pivots.Given as goal

abbrev pub invariant-loop-k : goal.invariant-loop-k
invariant-loop-k l =
    let n = length l.list in
    (l.k ≤ n) × (length l.rows ≡ n) × (length l.blocks ≡ n)
    × (walk n (pivot_read n (integers l.list)) (n - l.k) l.k (arranged l.rows l.blocks) ≡ arranged_of n (integers l.list))

abbrev pub decreases-loop-k : goal.decreases-loop-k
decreases-loop-k l = length l.list - l.k
