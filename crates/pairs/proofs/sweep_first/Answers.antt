-- What `pairs::sweep_first` owes. Assumes nothing.
use mathlib.Core.Path.{refl}
use native.Mathlib.Omega.{arith}
use Rattle.swept.proofs.Sweeps.{first-none, first_step}
use borrow.Author.Rules.{rules}
use Rattle.pairs.proofs.sweep_first.Goals as goal

pub loop-j-init : goal.loop-j-init
loop-j-init c = (omega arith, c.requires.up, refl, first-none _ _ _ _ _ _ _ _ _)

pub loop-j-preserved : goal.loop-j-preserved
loop-j-preserved c = let inv = c.loop-j.invariant in (
  search rules,
  search rules,
  search rules,
  first_step _ _ _ _ _ _ _ _ _ _ _ _ c.requires.past inv.0 inv.3 c.column_first.ensures,
)
