-- `lapack::list_pivots` meets its contract. The invariant: the rows before k stand in their places, and going on from k makes what the whole walk makes.
-- The measure is the columns left. Assumes nothing.
use Prim.Native.Nat.{◌-◌, ◌≤◌}
use mathlib.Core.Path.{◌≡◌}
use lib.ListN.{length}
use Rattle.model.specs.Matrix.{naturals, places}
use Rattle.model.specs.Kept.{Standing}
use Rattle.model.specs.Lapack.{walk, pivot_listed, list_of}
use Rattle.lapack.specs.Walks.{listing}
use Rattle.lapack.proofs.list_pivots.Given as goal

abbrev pub invariant-loop-k : goal.invariant-loop-k
invariant-loop-k l =
    let n = length l.order in
    let step = pivot_listed n (naturals l.order) (naturals l.blocks) in
    (l.k ≤ n) × (length l.rows ≡ n) × (length l.list ≡ n) × Standing n (naturals l.order) l.k (places l.rows)
    × (walk n step (n - l.k) l.k (listing l.rows l.list) ≡ list_of n (naturals l.order) (naturals l.blocks))

abbrev pub decreases-loop-k : goal.decreases-loop-k
decreases-loop-k l = length l.order - l.k
