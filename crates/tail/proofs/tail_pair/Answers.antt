-- `tail::tail_pair` meets its contract: the exchange before the first step, then the record's two steps, on the columns from k on. Assumes nothing.
use mathlib.Core.Path.{refl}
use native.Mathlib.Omega.{arith}
use Rattle.tail.proofs.Asked.{pair-pre, lent-kept, column-is, row-ahead, past-later}
use Rattle.tail.proofs.Lent.{part_count, kept_from}
use Rattle.tail.proofs.Laws.{pair-done}
use borrow.Author.Rules.{rules}
use Rattle.tail.proofs.tail_pair.Goals as goal

pub overflow_sub-last : goal.overflow_sub-last
overflow_sub-last c = let more = past-later _ _ _ c.past-last.ensures in search rules

pub overflow_sub-l : goal.overflow_sub-l
overflow_sub-l c = let more = past-later _ _ _ c.requires.both_pre.next in
    search rules

pub overflow_sub-last-2 : goal.overflow_sub-last-2
overflow_sub-last-2 c = let more = past-later _ _ _ c.requires.both_pre.next in
    let last = past-later _ _ _ c.past-last.ensures in
    search rules

pub column_from-requires : goal.column_from-requires
column_from-requires c = row-ahead _ _ _ _ _ _ c.requires.both_pre.first (omega arith) c.partner-kp.ensures

pub column_from-requires-2 : goal.column_from-requires-2
column_from-requires-2 c = let both = c.requires.both_pre in
    let more = past-later _ _ _ both.next in
    row-ahead _ _ _ _ _ _ both.second (omega arith) c.partner-kq.ensures

pub below_pair-requires-clause-pair_pre : goal.below_pair-requires-clause-pair_pre
below_pair-requires-clause-pair_pre c = let both = c.requires.both_pre in
    rw c.lent_from.ensures ((pair-pre _ _ _ _ _ _ _ _ _ _ _ _ _ _ (lent-kept _ _ _ _ _ c.requires.lent_pre c.arrive.auto.part) c.requires.read_pre both.first
    (part_count _ _ c.args.steps.mult.now refl _ c.place-start.ensures) _ _ _ _ _ _ _ _ _ _ both.next both.inside both.second
    c.diagonal_at-x.ensures c.diagonal_at-y.ensures c.past-last.ensures refl refl
    (column-is _ _ _ _ c.column_from.ensures c.partner-kp.ensures)
    (column-is _ _ _ _ c.column_from-2.ensures c.partner-kq.ensures)).0)

pub returns : goal.returns
returns c = let r = c.requires.read_pre in
    let both = c.requires.both_pre in
    let more = past-later _ _ _ both.next in
    pair-done _ _ _ _ (kept_from _ _ _ _ _ _ c.args.steps.mult.now r.from r.width c.place-start.ensures refl)
    _ _ _ _ _ _ _ _ both.first c.arrive.ensures _ _ _ _ _ _
    (omega arith) both.second both.stays c.diagonal_at-x.ensures c.diagonal_at-y.ensures
    (column-is _ _ _ _ c.column_from.ensures c.partner-kp.ensures)
    (column-is _ _ _ _ c.column_from-2.ensures c.partner-kq.ensures) refl
    (rw c.lent_from.ensures at c.below_pair.ensures)
