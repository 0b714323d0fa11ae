-- `landing::local_row` meets its contract. The invariant: the search from i on finds what the whole search finds. Assumes nothing.
use mathlib.Core.Path.{◌≡◌}
use Prim.Native.Nat.{◌-◌}
use lib.ListN.{length}
use Rattle.model.specs.Matrix.{naturals}
use Rattle.model.specs.Update.{place_from}
use Rattle.landing.proofs.local_row.Given as goal

abbrev pub invariant-loop-i : goal.invariant-loop-i
invariant-loop-i l =
    place_from (naturals l.rows) l.g.0 (length l.rows - l.i) l.i ≡ place_from (naturals l.rows) l.g.0 (length l.rows - l.initial.i) l.initial.i
