-- `pairs::sweep_next` meets its contract: several columns, or one where none were passed. Assumes nothing.
use Rattle.swept.proofs.Several.{one-column}
use Rattle.pairs.proofs.sweep_next.Goals as goal

pub returns-clause-part_after : goal.returns-clause-part_after
returns-clause-part_after c =
    one-column _ _ _ _ _ _ _ c.requires.pair_pre c.requires.f_lt_j.0 (rw c.in_default.ensures at c.column_both.ensures)
