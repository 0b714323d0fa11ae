-- `answer::put_printed` meets its contract where a stream is turned away. Assumes nothing.
use mathlib.Core.Path.{sym, ◌∙◌}
use Rattle.answer.proofs.Calls.{refused-printed}
use Rattle.answer.proofs.put_printed.Goals as goal

pub returns-in-Err : goal.returns-in-Err
returns-in-Err c = refused-printed _ _ (sym c.asked_by.ensures ∙ c.in-Err.is) c.refused.ensures
