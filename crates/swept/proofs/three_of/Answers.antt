-- `swept::three_of` meets its contract, for a block and then a 1x1 and for a 1x1 and then a block. Assumes nothing.
use Rattle.swept.specs.Swept.{three_of}
use Rattle.swept.proofs.Sweeps.{placed, second-kept, second-kept-next}
use borrow.Author.Rules.{rules}
use Rattle.swept.proofs.three_of.Goals as goal

pub get-own-requires : goal.get-own-requires
get-own-requires c = second-kept c.requires.pair_pre.1 _ c.requires.f_lt_j.0 c.requires.f_lt_j.1

pub returns-then-pair : goal.returns-then-pair
unfolding three_of
returns-then-pair c = rw (c.if-pair.true, c.multiplier_before-first.ensures, c.multiplier_before-second.ensures, c.get-own.ensures)

pub overflow_add-pair : goal.overflow_add-pair
overflow_add-pair c = let at = placed c.requires.pair_pre.1 in search rules

pub get-requires : goal.get-requires
get-requires c = second-kept-next c.requires.pair_pre.1 _ c.requires.f_lt_j.0 c.requires.f_lt_j.1

pub returns : goal.returns
unfolding three_of
returns c = rw (c.if-pair.false, c.multiplier_before-first.ensures, c.get-own.ensures, c.get.ensures)
