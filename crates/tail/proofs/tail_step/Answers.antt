-- `tail::tail_step` meets its contract: the exchange before the step, then the record's step, on the columns from k on. Assumes nothing.
use mathlib.Core.Path.{refl}
use Rattle.tail.proofs.Asked.{step-pre, lent-kept, column-is, row-ahead}
use Rattle.tail.proofs.Lent.{part_count, kept_from}
use Rattle.tail.proofs.Laws.{step-done}
use borrow.Author.Rules.{rules}
use Rattle.tail.proofs.tail_step.Goals as goal

pub column_from-requires : goal.column_from-requires
column_from-requires c = row-ahead _ _ _ _ _ _ c.requires.here_pre (search rules) c.partner-kp.ensures

pub below_step-requires : goal.below_step-requires
below_step-requires c = rw c.lent_from.ensures (step-pre _ _ _ _ _ _ _ _ _ _ _ _ _ _ (lent-kept _ _ _ _ _ c.requires.lent_pre c.arrive.auto.part)
    c.requires.read_pre c.requires.here_pre
    (part_count _ _ c.args.steps.mult.now refl _ c.place-start.ensures) _ _ _ _ c.diagonal_at-pivot.ensures
    (column-is _ _ _ _ c.column_from.ensures c.partner-kp.ensures))

pub returns : goal.returns
returns c = let r = c.requires.read_pre in
    step-done _ _ _ _ (kept_from _ _ _ _ _ _ c.args.steps.mult.now r.from r.width c.place-start.ensures refl)
    _ _ _ _ _ _ _ _ c.requires.here_pre c.arrive.ensures _ _
    c.diagonal_at-pivot.ensures (column-is _ _ _ _ c.column_from.ensures c.partner-kp.ensures) (rw c.lent_from.ensures at c.below_step.ensures)
