-- `assembly::add_entries` meets its contract. The invariant: adding the entries from k on to the panel as it is makes what adding them all to the first
-- panel makes. Assumes nothing.
use mathlib.Core.Path.{◌≡◌}
use Prim.Native.Nat.{◌-◌}
use lib.ListN.{length}
use Rattle.model.specs.Matrix.{view, vec, naturals}
use Rattle.model.specs.Assembly.{assembled_from}
use Rattle.assembly.proofs.add_entries.Given as goal

abbrev pub invariant-loop-k : goal.invariant-loop-k
invariant-loop-k l =
    (length l.panel ≡ length l.initial.panel)
    × (assembled_from (naturals l.rows) (naturals l.columns) (vec l.numbers) (length l.rows - l.k) l.k (view l.nrow l.panel)
    ≡ assembled_from (naturals l.rows) (naturals l.columns) (vec l.numbers) (length l.rows) 0 (view l.nrow l.initial.panel))
