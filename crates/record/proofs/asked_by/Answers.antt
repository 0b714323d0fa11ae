-- `record::asked_by` meets its contract: the first test that fails is the answer. Assumes nothing.
use native.Mathlib.Omega.{arith}
use Rattle.record.proofs.Laws.{numbers-few, first-refuses, first-whole, sizes-refuse, second-refuses, none-refuses}
use Rattle.record.proofs.asked_by.Goals as goal

pub returns-then-not-first_sound : goal.returns-then-not-first_sound
returns-then-not-first_sound c = search first-refuses

pub settings-c-requires : goal.settings-c-requires
settings-c-requires c = search first-whole

pub returns-then-not-sizes_sound : goal.returns-then-not-sizes_sound
returns-then-not-sizes_sound c = search sizes-refuse

pub overflow_mul-c : goal.overflow_mul-c
overflow_mul-c c = record { fits = omega (arith, numbers-few _ _ c.sizes_sound.ensures (rw c.if-not-sizes_sound.false)) }

pub second_sound-requires : goal.second_sound-requires
second_sound-requires c = numbers-few _ _ c.sizes_sound.ensures (rw c.if-not-sizes_sound.false)

pub returns-then-not-second_sound : goal.returns-then-not-second_sound
returns-then-not-second_sound c = search second-refuses

pub returns : goal.returns
returns c =
    none-refuses _ _ c.first_sound.ensures (rw c.if-not-first_sound.false) _ c.settings-c.ensures
    _ c.sizes_sound.ensures (rw c.if-not-sizes_sound.false) _ c.second_sound.ensures (rw c.if-not-second_sound.false)
