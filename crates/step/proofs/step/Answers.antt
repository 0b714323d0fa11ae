-- `step::step` meets its contract: each case of the choice is the model's. Assumes nothing.
use Rattle.step.proofs.Laws.{single-pre, block-pre, within-mode, step-zero, step-single, step_block}
use Rattle.step.proofs.step.Goals as goal

pub single-requires : goal.single-requires
single-requires c = single-pre _ _ _ _ _ _ c.requires.step_pre c.in-Single.is
    (within-mode _ c.args.how.mode c.args.k c.choose-choice.result _ c.requires.step_pre.last c.choose-choice.ensures.chosen_within c.by_mode.ensures)

pub moved_block-requires : goal.moved_block-requires
moved_block-requires c = let h = block-pre _ _ _ _ _ _ c.requires.step_pre c.in-Block.is
    (within-mode _ c.args.how.mode c.args.k c.choose-choice.result _ c.requires.step_pre.last c.choose-choice.ensures.chosen_within c.by_mode.ensures) in
    record { pivot_pre = h.0; within = h.1 }

pub returns-in-ZeroColumn : goal.returns-in-ZeroColumn
returns-in-ZeroColumn c = let h = step-zero _ _ _ _ _ _ _ _ _ c.requires.step_pre.last c.requires.limit_pre c.choose-choice.ensures.value c.by_mode.ensures c.in-ZeroColumn.is in
    record { mult_after = h.0; taken_in = h.1 }

pub returns-in-Single : goal.returns-in-Single
returns-in-Single c = let h = step-single _ _ _ _ _ _ _ _ _ c.requires.step_pre.last c.requires.limit_pre c.choose-choice.ensures.value c.by_mode.ensures _ _ c.in-Single.is
    c.single.ensures in
    record { mult_after = h.0; taken_in = h.1 }

pub returns-in-Block : goal.returns-in-Block
returns-in-Block c = let h = step_block _ _ _ _ _ _ _ _ _ c.requires.step_pre.last c.requires.limit_pre c.choose-choice.ensures.value c.by_mode.ensures _ _
    c.in-Block.is c.moved_block.ensures in
    record { mult_after = h.0; taken_in = h.1 }
