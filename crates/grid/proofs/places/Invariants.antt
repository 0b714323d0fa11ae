-- `grid::places` meets its contract. The invariant: of the columns before u there stands where their numbers begin. Assumes nothing.
use Prim.Native.Nat.{ℕ, ◌+◌, ◌<◌}
use mathlib.Core.Path.{◌≡◌}
use lib.ListN.{length}
use Rattle.model.specs.Matrix.{column_start, naturals}
use Rattle.grid.proofs.places.Given as goal

abbrev pub invariant-loop-u : goal.invariant-loop-u
invariant-loop-u g l =
    (length l.at ≡ g.row.N) × ((v : ℕ) → v < l.u → naturals l.at v ≡ l.lo + column_start l.nrow (l.j + v))
