-- What `eliminate::sweeps::sweep_two` owes. Assumes nothing.
use Rattle.eliminate.proofs.Region.{sweep-two-none, sweep-two-step}
use borrow.Author.Rules.{rules}
use Rattle.eliminate.proofs.sweeps.sweep_two.Goals as goal

pub loop-j-init : goal.loop-j-init
loop-j-init c = search (rules, sweep-two-none)

pub loop-j-preserved : goal.loop-j-preserved
loop-j-preserved c =
    let inv = c.loop-j.invariant in (
      search rules,
      search rules,
      search rules,
      sweep-two-step _ _ _ _ _ _ _ _ _ _ _ _ _ inv.0 c.loop-j-test.true c.requires.from inv.3 c.max.ensures
          c.get-m1.ensures c.get-m2.ensures c.less_columns.ensures,
    )
