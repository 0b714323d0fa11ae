-- `exchange::exchange_cross` meets its contract. The invariant: the pairs before i are exchanged. Assumes nothing.
use Prim.Native.Nat.{◌+◌, ◌*◌, ◌≤◌}
use mathlib.Core.Path.{◌≡◌}
use lib.ListN.{length}
use Rattle.model.specs.Matrix.{view}
use Rattle.exchange.specs.Exchange.{cross_exchanged}
use Rattle.exchange.proofs.exchange_cross.Given as goal

abbrev pub invariant-loop-i : goal.invariant-loop-i
invariant-loop-i l =
    (l.fn.p.0 + 1 ≤ l.i) × (l.i ≤ l.q.0) × (l.i * l.nrow ≤ l.q.0 * l.nrow) × (length l.panel ≡ length l.initial.panel)
    × (view l.nrow l.panel ≡ cross_exchanged (view l.nrow l.initial.panel) l.fn.p.0 l.q.0 (l.fn.p.0 + 1) l.i)
