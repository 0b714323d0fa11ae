-- `landing::locate` meets its contract. The invariant: `Locating` of Order.antt. Assumes nothing.
use lib.ListN.{length}
use Rattle.landing.proofs.Order.{Locating}
use Rattle.landing.proofs.locate.Given as goal

abbrev pub invariant-loop-i : goal.invariant-loop-i
invariant-loop-i l = Locating l.rows l.krows l.start (length l.initial.places) l.places l.from l.i
