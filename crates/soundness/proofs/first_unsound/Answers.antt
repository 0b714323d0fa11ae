-- What `soundness::first_unsound` owes: the refusal, one column more, and the end. Assumes nothing.
use Rattle.soundness.proofs.Result.{result-step, result-found, result-end}
use borrow.Author.Rules.{rules}
use Rattle.soundness.proofs.first_unsound.Goals as goal

pub returns-then-not-column_sound : goal.returns-then-not-column_sound
returns-then-not-column_sound c = search result-found

pub loop-k-preserved : goal.loop-k-preserved
loop-k-preserved c = search (rules, result-step)

pub returns : goal.returns
returns c = search result-end
