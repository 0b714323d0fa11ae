-- `swept::four_singles` meets its contract: four columns, or none. Assumes nothing.
use native.Mathlib.Omega.{arith}
use Rattle.model.specs.Matrix.{vec}
use Rattle.swept.specs.Swept.{two_of}
use Rattle.swept.proofs.Several.{four-columns, four-done}
use borrow.Author.Rules.{rules}
use Rattle.swept.proofs.four_singles.Goals as goal

pub less_of-requires : goal.less_of-requires
less_of-requires c =
    let at = c.requires.f_lt_j in
    (search rules, (search rules, (four-columns c.requires.pair_pre at.0 at.1, (search rules, omega arith))))

-- (The third list by a search: then it may be written by its two numbers.)
pub returns-then-neither_zero : goal.returns-then-neither_zero
unfolding vec two_of
returns-then-neither_zero c =
    let at = c.requires.f_lt_j in
    let third = c.two_of-c.ensures in (
      four-done _ _ _ _ _ _ _ c.requires.pair_pre at.0 c.requires.kinds.0 c.requires.kinds.1 c.two_of-a.ensures c.two_of-b.ensures (search rules)
          c.two_of-d.ensures c.neither_zero.ensures c.neither_zero-2.ensures c.neither_zero-3.ensures c.neither_zero-4.ensures c.if-neither_zero.true
          c.less_of.ensures,
      (omega arith, at.1),
    )
