-- `update_rows::update_rows` meets its contract. The invariant: going on from row c with the panel as it is gives what the whole loop gives; acc keeps its
-- length. Assumes nothing.
use mathlib.Core.Path.{◌≡◌}
use Prim.Native.Nat.{◌-◌}
use lib.ListN.{length}
use Rattle.model.specs.Matrix.{view, naturals}
use Rattle.landing.specs.Nodes.{descendant_in}
use Rattle.update_rows.specs.Apply.{rows_applied}
use Rattle.update_rows.proofs.update_rows.Given as goal

abbrev pub invariant-loop-c : goal.invariant-loop-c
invariant-loop-c l =
    (length l.panel ≡ length l.initial.panel) × (length l.acc ≡ 256)
    × (rows_applied l.t.first.0 l.t.ncol (descendant_in l.k) (naturals l.places) (l.k.mk - l.c) l.c (view l.t.nrow l.panel)
    ≡ rows_applied l.t.first.0 l.t.ncol (descendant_in l.k) (naturals l.places) (l.k.mk - l.start) l.start (view l.t.nrow l.initial.panel))
