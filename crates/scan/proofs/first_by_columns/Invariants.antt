-- `scan::first_by_columns` meets its contract. The invariants: nothing is found yet, and the whole check is what is left of it, from the row at hand on or
-- from the column on. Assumes nothing.
use Prim.Native.Nat.{◌-◌, ◌≤◌}
use mathlib.Core.Path.{◌≡◌}
use Rattle.std.specs.Prelude.{Ok}
use Rattle.model.specs.Matrix.{view}
use Rattle.model.specs.Factor.{columns_check}
use Rattle.scan.proofs.Finite.{from_here}
use Rattle.scan.proofs.first_by_columns.Given as goal

abbrev pub invariant-loop-row : goal.invariant-loop-row
invariant-loop-row l = (l.found ≡ Ok tt) × (l.column ≤ l.row)
    × (columns_check (view l.nrow l.input) l.nrow l.ncol 0 ≡ from_here (view l.nrow l.input) l.nrow l.ncol l.column l.row)

abbrev pub invariant-columns : goal.invariant-columns
invariant-columns l = (l.found ≡ Ok tt) × (columns_check (view l.nrow l.input) l.nrow l.ncol 0 ≡ columns_check (view l.nrow l.input) l.nrow (l.ncol - l.column) l.column)
