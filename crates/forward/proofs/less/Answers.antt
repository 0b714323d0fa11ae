-- What `forward::less` owes. Assumes nothing.
use native.Mathlib.Omega.{arith}
use native.Mathlib.Nat.{le_antisymm}
use native.Mathlib.Numerals.{add-one}
use mathlib.Core.Path.{◌≡◌, refl}
use Rattle.model.specs.Matrix.{vec, naturals}
use Rattle.kernels.specs.Rules.{less_all}
use Rattle.kernels.proofs.Rules.{rule-none}
use Rattle.forward.proofs.Lent.{less-step}
use borrow.Author.Rules.{rules}
use Rattle.forward.proofs.less.Goals as goal

pub loop-i-init : goal.loop-i-init
loop-i-init g c = search (rules, rule-none)

pub loop-u-init : goal.loop-u-init
unfolding less_all
loop-u-init g c = refl

pub overflow_add-v : goal.overflow_add-v
unfolding naturals
overflow_add-v g c = let run = c.requires.runs c.loop-u.u c.loop-u-test.true in search rules

pub offset_bounds-g-at : goal.offset_bounds-g-at
unfolding naturals
offset_bounds-g-at g c = let run = c.requires.runs c.loop-u.u c.loop-u-test.true in search rules

pub bounds-g-at : goal.bounds-g-at
unfolding naturals
bounds-g-at g c = let run = c.requires.runs c.loop-u.u c.loop-u-test.true in search rules

pub loop-u-preserved : goal.loop-u-preserved
unfolding less_all naturals vec
loop-u-preserved g c = rw (add-one c.loop-u.u) (rw c.loop-u.invariant (search rules))

pub loop-i-preserved : goal.loop-i-preserved
loop-i-preserved g c =
    let done : c.loop-u.u ≡ g.row.N = le_antisymm c.loop-u.auto.u-end (omega arith) in (
      search rules,
      search rules,
      less-step g.row.N _ c.loop-i.x c.args.g.now c.loop-i.i c.args.n _ (naturals c.args.at) (vec c.args.m) c.loop-u.v
          (search rules) c.requires.out c.loop-i.invariant.1 c.loop-i.invariant.2 (rw done at c.loop-u.invariant),
    )
