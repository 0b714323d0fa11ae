-- `lapack::place_of` meets its contract. The invariant: the search from p on ends where the whole search ends. Assumes nothing.
use Prim.Native.Nat.{◌-◌}
use mathlib.Core.Path.{◌≡◌}
use lib.ListN.{length}
use Rattle.model.specs.Matrix.{places}
use Rattle.model.specs.Lapack.{place_from}
use Rattle.lapack.proofs.place_of.Given as goal

abbrev pub invariant-loop-p : goal.invariant-loop-p
invariant-loop-p l =
    place_from (places l.rows) l.row.0 (length l.rows - l.p) l.p ≡ place_from (places l.rows) l.row.0 (length l.rows - l.initial.p) l.initial.p
