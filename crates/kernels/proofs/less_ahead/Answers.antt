-- What `kernels::less_ahead` owes. Assumes nothing.
use native.Mathlib.Omega.{arith}
use native.Mathlib.Nat.{le_antisymm}
use native.Mathlib.Numerals.{add-one}
use mathlib.Core.Path.{◌≡◌, refl}
use Rattle.model.specs.Matrix.{vec, naturals}
use Rattle.kernels.specs.Rules.{less_all}
use Rattle.kernels.proofs.Rules.{from-none, less-step}
use borrow.Author.Rules.{rules}
use Rattle.kernels.proofs.less_ahead.Goals as goal

pub loop-i-init : goal.loop-i-init
loop-i-init g c = search (rules, from-none)

pub loop-u-init : goal.loop-u-init
unfolding less_all
loop-u-init g c = refl

pub overflow_add-y-in-loop-u : goal.overflow_add-y-in-loop-u
unfolding naturals
overflow_add-y-in-loop-u g c = let run = c.requires.apart c.loop-u.u c.loop-u-test.true in search rules

pub offset_bounds-x-at : goal.offset_bounds-x-at
unfolding naturals
offset_bounds-x-at g c = let run = c.requires.apart c.loop-u.u c.loop-u-test.true in search rules

pub bounds-x-at : goal.bounds-x-at
unfolding naturals
bounds-x-at g c = let run = c.requires.apart c.loop-u.u c.loop-u-test.true in search rules

pub loop-u-preserved : goal.loop-u-preserved
unfolding less_all naturals vec
loop-u-preserved g c = rw (add-one c.loop-u.u) (rw c.loop-u.invariant (search rules))

pub loop-i-preserved : goal.loop-i-preserved
loop-i-preserved g c = let i = c.loop-i.i in
    let done : c.loop-u.u ≡ g.row.N = le_antisymm c.loop-u.auto.u-end (omega arith) in (
      search rules,
      search rules,
      less-step g.row.N _ c.loop-i.x c.args.q i c.args.n _ (naturals c.args.at) (vec c.args.m) c.loop-u.y
          (search rules) c.requires.apart c.requires.out c.loop-i.invariant.1 c.loop-i.invariant.2 (rw done at c.loop-u.invariant),
    )
