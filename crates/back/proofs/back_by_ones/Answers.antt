-- What `back::back_by_ones` owes. Assumes nothing.
use Rattle.model.specs.Matrix.{vec}
use Rattle.back.proofs.Turns.{ones-pre, ones_step, ones-end}
use borrow.Author.Rules.{rules}
use Rattle.back.proofs.back_by_ones.Goals as goal

pub step_back-requires : goal.step_back-requires
step_back-requires c = search (rules, ones-pre)

pub loop-k-preserved : goal.loop-k-preserved
unfolding vec
loop-k-preserved c = search (rules, ones_step)

pub returns : goal.returns
returns c = search ones-end
