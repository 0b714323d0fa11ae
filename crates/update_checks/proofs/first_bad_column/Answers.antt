-- What `update_checks::first_bad_column` owes. Assumes nothing.
use Rattle.checks.proofs.First.{first_step, first-bad, first-end}
use Rattle.update_checks.proofs.first_bad_column.Goals as goal

pub returns-then-not-column_sound : goal.returns-then-not-column_sound
returns-then-not-column_sound c = search first-bad

pub loop-c-preserved : goal.loop-c-preserved
loop-c-preserved c = search first_step

pub returns : goal.returns
returns c = search first-end
