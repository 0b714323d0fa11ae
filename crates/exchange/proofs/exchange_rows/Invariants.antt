-- `exchange::exchange_rows` meets its contract. The invariant: the columns before j are exchanged. Assumes nothing.
use Prim.Native.Nat.{◌*◌, ◌≤◌}
use mathlib.Core.Path.{◌≡◌}
use lib.ListN.{length}
use Rattle.model.specs.Matrix.{view}
use Rattle.exchange.specs.Exchange.{rows_exchanged}
use Rattle.exchange.proofs.exchange_rows.Given as goal

abbrev pub invariant-loop-j : goal.invariant-loop-j
invariant-loop-j l =
    (l.j ≤ l.p.0) × (l.j * l.nrow ≤ l.p.0 * l.nrow) × (length l.panel ≡ length l.initial.panel) × (view l.nrow l.panel ≡ rows_exchanged (view l.nrow l.initial.panel) l.p.0 l.q.0 0 l.j)
