-- `order::first_bad_row` meets its contract. The invariant: the rows that the positions before k name are marked, and the scan from k on finds what the whole
-- scan finds. Assumes nothing.
use Prim.Native.Nat.{◌-◌}
use mathlib.Core.Path.{◌≡◌}
use lib.ListN.{length}
use Rattle.model.specs.Matrix.{naturals}
use Rattle.model.specs.Assembly.{first_not}
use Rattle.model.specs.Solve.{order_sound, order_at}
use Rattle.order.proofs.Laws.{seen_of}
use Rattle.order.proofs.first_bad_row.Given as goal

abbrev pub invariant-loop-k : goal.invariant-loop-k
invariant-loop-k l =
    (length l.seen ≡ 128) × (naturals l.seen ≡ seen_of (naturals l.order) l.k)
    × (first_not (order_sound (naturals l.order) l.n) order_at (l.n - l.k) l.k ≡ first_not (order_sound (naturals l.order) l.n) order_at l.n 0)
