-- What `back::four_down` owes. Assumes nothing.
use Prim.Native.Nat.{◌+◌}
use mathlib.Core.Path.{◌≡◌}
use native.Mathlib.Omega.{arith}
use Rattle.model.specs.Matrix.{vec, naturals}
use Rattle.back.proofs.Down.{four-there, whole-none, whole-step, whole-end}
use borrow.Author.Rules.{rules}
use Rattle.back.proofs.four_down.Goals as goal

pub loop-i-init : goal.loop-i-init
unfolding vec naturals
loop-i-init c = (
  search rules,
  four-there _ _ _ _ _ c.requires c.places.ensures,
  search whole-none,
  search whole-none,
  search whole-none,
  search whole-none,
)

pub loop-i-preserved : goal.loop-i-preserved
unfolding vec naturals
loop-i-preserved c = let g = c.args in
    let at = c.places.ensures in
    let z : g.k + 0 ≡ g.k = omega arith in
    let (_, there, s0, s1, s2, s3) = c.loop-i.invariant in (
      search rules,
      there,
      whole-step _ g.x.now _ _ g.lo _ _ _ (rw z at (at 0 (omega arith))) (search rules) (search rules) s0,
      whole-step _ g.x.now _ _ g.lo _ _ _ (at 1 (omega arith)) (search rules) (search rules) s1,
      whole-step _ g.x.now _ _ g.lo _ _ _ (at 2 (omega arith)) (search rules) (search rules) s2,
      whole-step _ g.x.now _ _ g.lo _ _ _ (at 3 (omega arith)) (search rules) (search rules) s3,
    )

pub returns-clause-result_value : goal.returns-clause-result_value
unfolding vec
returns-clause-result_value c = search (rules, whole-end)

pub returns-clause-result_value_2 : goal.returns-clause-result_value_2
unfolding vec
returns-clause-result_value_2 c = search (rules, whole-end)
