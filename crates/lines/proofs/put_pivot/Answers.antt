-- `lines::put_pivot` meets its contract: its parts one after another. Assumes nothing.
use Rattle.lines.proofs.Laws.{pivot-is, pivot-at}
use Rattle.lines.proofs.put_pivot.Goals as goal

pub returns-clause-writes : goal.returns-clause-writes
returns-clause-writes g c =
    pivot-at _ _ _ _ _ _ _ _ _ _ _ c.from.ensures c.from-2.ensures c.from-3.ensures
    (pivot-is _ _ _ _ _ _ _ _ c.push_word.ensures c.put_field.ensures.writes
    c.put_field-2.ensures.writes c.put_number.ensures.writes c.put_number-2.ensures.writes c.put_field-3.ensures.writes c.put_number-3.ensures.writes
    c.put_field-4.ensures.writes c.push.ensures)
