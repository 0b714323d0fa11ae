-- `update_checks::lists_check` meets its contract: the first of the four checks that refuses is the answer. Assumes nothing.
use Rattle.model.specs.Update.{update_sound}
use Rattle.update_checks.proofs.Listed.{lists-lengths, lists-columns, lists-target, lists-descendant, lists-bytes}
use Rattle.update_checks.proofs.lists_check.Goals as goal

pub returns-then-not-lengths_sound : goal.returns-then-not-lengths_sound
unfolding update_sound
returns-then-not-lengths_sound c = lists-lengths _ _ _ _ c.lengths_sound.ensures c.if-not-lengths_sound.true

pub target_sound-requires : goal.target_sound-requires
target_sound-requires c = lists-columns _ _ _ _ c.lengths_sound.ensures c.if-not-lengths_sound.false

pub returns-then-not-target_sound : goal.returns-then-not-target_sound
unfolding update_sound
returns-then-not-target_sound c =
    lists-target _ _ _ _ c.lengths_sound.ensures c.if-not-lengths_sound.false _ c.target_sound.ensures c.if-not-target_sound.true

pub returns-then-not-rising : goal.returns-then-not-rising
unfolding update_sound
returns-then-not-rising c =
    lists-descendant _ _ _ _ c.lengths_sound.ensures c.if-not-lengths_sound.false _ c.target_sound.ensures c.if-not-target_sound.false _
    c.rising.ensures c.if-not-rising.true

pub returns : goal.returns
unfolding update_sound
returns c =
    lists-bytes _ _ _ _ c.lengths_sound.ensures c.if-not-lengths_sound.false _ c.target_sound.ensures c.if-not-target_sound.false _
    c.rising.ensures c.first_bad_byte.result c.if-not-rising.false c.first_bad_byte.ensures
