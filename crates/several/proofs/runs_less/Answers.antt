-- What `several::runs_less` owes. Assumes nothing.
use mathlib.Core.Path.{refl}
use native.Mathlib.Omega.{arith}
use Rattle.model.specs.Matrix.{vec, naturals}
use Rattle.several.proofs.Runs.{puts_by, runs_none, store-next, store-all}
use borrow.Author.Rules.{rules}
use Rattle.several.proofs.runs_less.Goals as goal

pub loop-i-init : goal.loop-i-init
loop-i-init g c = (omega arith, refl, runs_none _ _ _ _)

pub loop-u-init : goal.loop-u-init
unfolding puts_by
loop-u-init g c = (c.loop-i.invariant.1, c.loop-i.invariant.2)

pub overflow_add-own : goal.overflow_add-own
unfolding naturals
overflow_add-own g c = let there = c.requires.out c.loop-u.u c.loop-u-test.true in search rules

pub offset_bounds-x-own : goal.offset_bounds-x-own
unfolding naturals
offset_bounds-x-own g c = let there = c.requires.out c.loop-u.u c.loop-u-test.true in search rules

pub bounds-x-own : goal.bounds-x-own
unfolding naturals
bounds-x-own g c = let there = c.requires.out c.loop-u.u c.loop-u-test.true in search rules

pub offset_bounds-x-own-in-loop-u : goal.offset_bounds-x-own-in-loop-u
unfolding naturals
offset_bounds-x-own-in-loop-u g c = let there = c.requires.out c.loop-u.u c.loop-u-test.true in search rules

pub bounds-x-own-in-loop-u : goal.bounds-x-own-in-loop-u
unfolding naturals
bounds-x-own-in-loop-u g c = let there = c.requires.out c.loop-u.u c.loop-u-test.true in search rules

pub loop-u-preserved : goal.loop-u-preserved
unfolding naturals
loop-u-preserved g c = (
  search rules,
  rw c.less_all.ensures
      (store-next _ _ _ _ _ _ c.loop-i.i c.args.n _ c.loop-i-test.true c.requires c.loop-u.u _ c.loop-i.x c.loop-u.x (vec c.numbers_at-s.result)
      c.loop-u-test.true (search rules) c.loop-u.invariant.0 c.loop-i.invariant.2 c.numbers_at-s.ensures c.loop-u.invariant.1),
)

pub loop-i-preserved : goal.loop-i-preserved
loop-i-preserved g c = (
  omega arith,
  c.loop-u.invariant.0,
  store-all _ _ _ _ _ _ c.loop-i.i c.args.n _ c.loop-i-test.true c.requires c.loop-u.u _ c.loop-u.auto.u-end (omega arith) c.loop-u.invariant.1,
)
