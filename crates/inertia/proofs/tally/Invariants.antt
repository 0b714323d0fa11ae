-- `inertia::tally` meets its contract. The invariant: the tally so far has counted k columns, and counting on from k gives the whole count.
-- The measure is what is left of the columns. Assumes nothing.
use Prim.Native.Nat.{◌-◌, ◌≤◌}
use mathlib.Core.Path.{◌≡◌}
use lib.ListN.{length}
use Rattle.model.specs.Matrix.{vec, naturals}
use Rattle.model.specs.Inertia.{tallied_from, tallied_of}
use Rattle.inertia.proofs.Running.{total}
use Rattle.inertia.proofs.tally.Given as goal

abbrev pub invariant-loop-k : goal.invariant-loop-k
invariant-loop-k l =
    let d = l.x.d.now in
    let sub = vec l.x.sub.now in
    let blocks = naturals l.x.blocks.now in
    (l.k ≤ length d) × (total l.t ≡ l.k) × (tallied_from (vec d) sub blocks (length d) (length d - l.k) l.k l.t ≡ tallied_of (length d) (vec d) sub blocks)

abbrev pub decreases-loop-k : goal.decreases-loop-k
decreases-loop-k l = length l.x.d.now - l.k
