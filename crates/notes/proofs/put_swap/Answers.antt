-- `notes::put_swap` meets its contract: two stores exchange two places, and one place is its own exchange. Assumes nothing.
use Rattle.model.proofs.Exchanged.{swapped_same}
use Rattle.model.proofs.Stores.{swap-places}
use Rattle.notes.proofs.put_swap.Goals as goal

pub returns-then-e-kp : goal.returns-then-e-kp
returns-then-e-kp c = swap-places _ _ _ _ c.requires.first c.requires.last (c.swap.ensures.by_index.3 0)

pub returns-else-e-kp : goal.returns-else-e-kp
returns-else-e-kp c = swapped_same _ _ _ c.if-e-kp.false
