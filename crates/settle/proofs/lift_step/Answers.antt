-- `settle::lift_step` meets its contract. Assumes nothing.
use Rattle.rule.proofs.Laws.{growth-is}
use Rattle.settle.proofs.lift_step.Goals as goal

pub returns : goal.returns
returns c = cc growth-is
