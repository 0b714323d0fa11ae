-- `answer::run` meets its contract: what the factor call says of the buffers as it left them. Assumes nothing.
use Rattle.model.specs.Factor.{lent_in}
use Rattle.answer.proofs.Calls.{run_is}
use Rattle.answer.proofs.run.Goals as goal

pub returns : goal.returns
returns c = run_is _ c.factor-answer.result (lent_in c.factor-answer.new.b) _ c.factor-answer.ensures.value c.put_said.ensures c.requires.empty
