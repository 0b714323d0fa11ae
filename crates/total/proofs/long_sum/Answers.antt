-- What `total::long_sum` owes. Assumes nothing.
use Prim.Native.Nat.{◌<◌}
use mathlib.Core.Path.{◌≡◌, ◌∙◌, ap}
use native.Mathlib.Omega.{arith}
use lib.ListN.{length}
use Rattle.total.proofs.Sums.{sixteen-turn, sixteen_end, long-end}
use Rattle.total.proofs.long_sum.Goals as goal

pub loop-sixteen-preserved : goal.loop-sixteen-preserved
loop-sixteen-preserved c =
    let next = c.in-Some.ensures.steps in
    let w = c.loop-sixteen.invariant in
    let sixteen = next.1.1 ∙ w.0 in (
      next.0 ∙ w.0,
      sixteen-turn _ _ _ 0 _ _ _ next.1.0 sixteen (omega arith) c.every_second-s-in-loop-sixteen.ensures w.1,
      sixteen-turn _ _ _ 1 _ _ _ next.1.0 sixteen (omega arith) c.every_second-t-in-loop-sixteen.ensures w.2,
    )

pub returns : goal.returns
returns c =
    let w = c.loop-sixteen.invariant in
    let steps = c.in-None.ensures.steps in
    let few : length c.loop-sixteen.sixteen-iterator.rest.now < 16 = omega (arith, steps.1.0, w.0) in
    let over : c.into_iter-sixteen-iterator.result.rest.now ≡ _ =
    ap (λ x. x.rest.now) c.into_iter-sixteen-iterator.ensures.into_iter_gives ∙ c.chunks_exact-sixteen-items.ensures.rest in
    long-end _ _ _ _ _ _ c.requires c.every_second-s.ensures c.every_second-t.ensures over (sixteen_end _ 0 _ _ few w.1) (sixteen_end _ 1 _ _ few w.2)
