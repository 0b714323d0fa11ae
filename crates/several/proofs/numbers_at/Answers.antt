-- What `several::numbers_at` owes. Assumes nothing.
use Rattle.model.specs.Matrix.{naturals}
use Rattle.several.proofs.Runs.{numbers-step}
use borrow.Author.Rules.{rules}
use Rattle.several.proofs.numbers_at.Goals as goal

pub overflow_add-s : goal.overflow_add-s
unfolding naturals
overflow_add-s g c = let there = c.requires c.loop-v.v c.loop-v-test.true in search rules

pub offset_bounds-x-from : goal.offset_bounds-x-from
unfolding naturals
offset_bounds-x-from g c = let there = c.requires c.loop-v.v c.loop-v-test.true in search rules

pub bounds-x-from : goal.bounds-x-from
unfolding naturals
bounds-x-from g c = let there = c.requires c.loop-v.v c.loop-v-test.true in search rules

pub loop-v-preserved : goal.loop-v-preserved
loop-v-preserved g c = (search rules, numbers-step _ _ _ _ _ (search rules) c.loop-v.invariant.1)
