-- `update_checks::first_bad_column` meets its contract. The invariant: the scan from c on finds what the whole scan finds. Assumes nothing.
use mathlib.Core.Path.{◌≡◌}
use Prim.Native.Nat.{◌-◌}
use Rattle.model.specs.Assembly.{first_not}
use Rattle.model.specs.Update.{descendant_sound, number_at}
use Rattle.landing.specs.Nodes.{descendant_in}
use Rattle.update_checks.proofs.first_bad_column.Given as goal

abbrev pub invariant-loop-c : goal.invariant-loop-c
invariant-loop-c l =
    first_not (descendant_sound (descendant_in l.k)) number_at (l.k.nk - l.c) l.c ≡ first_not (descendant_sound (descendant_in l.k)) number_at l.k.nk 0
