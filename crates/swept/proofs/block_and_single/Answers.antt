-- `swept::block_and_single` meets its contract: two columns, or none. Assumes nothing.
use native.Mathlib.Omega.{arith}
use Rattle.model.specs.Matrix.{vec}
use Rattle.swept.proofs.Several.{mixed-columns, mixed-done}
use borrow.Author.Rules.{rules}
use Rattle.swept.proofs.block_and_single.Goals as goal

pub less_of-requires : goal.less_of-requires
less_of-requires c =
    let at = c.requires.f_lt_j in
    (search rules, (search rules, (mixed-columns c.requires.pair_pre at.0 c.requires.kinds at.1, (search rules, omega arith))))

pub returns-then-neither_zero : goal.returns-then-neither_zero
unfolding vec
returns-then-neither_zero c =
    let at = c.requires.f_lt_j in (
      mixed-done _ _ _ _ _ _ _ c.requires.pair_pre at.0 c.requires.kinds c.three_of-a.ensures c.three_of-b.ensures _ c.single_at-one.ensures.value
          c.neither_zero.ensures c.if-neither_zero.true c.less_of.ensures,
      (omega arith, at.1),
    )
