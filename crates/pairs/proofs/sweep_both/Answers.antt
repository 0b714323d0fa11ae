-- What `pairs::sweep_both` owes. Assumes nothing.
use mathlib.Core.Path.{refl}
use native.Mathlib.Omega.{arith}
use Rattle.swept.proofs.Sweeps.{placed, both-none}
use Rattle.swept.proofs.Several.{both-join}
use borrow.Author.Rules.{rules}
use Rattle.pairs.proofs.sweep_both.Goals as goal

pub loop-j-init : goal.loop-j-init
loop-j-init c = let at = placed c.requires in (omega arith, omega arith, refl, both-none _ _ _ _ _ _ _ _ _ _ _)

pub loop-j-preserved : goal.loop-j-preserved
loop-j-preserved c = let inv = c.loop-j.invariant in
    let pre = c.requires in
    let at = placed pre in (
      search rules,
      search rules,
      search rules,
      both-join _ _ _ _ _ _ _ _ _ _ _ _ _ _ _ (omega (arith, pre.next)) (omega (arith, pre.last)) inv.0 (search rules) inv.3
          c.sweep_next-j.ensures.part_after,
    )
