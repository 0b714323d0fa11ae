-- `swept::two_of` meets its contract. Assumes nothing.
use Rattle.swept.specs.Swept.{two_of}
use Rattle.swept.proofs.Sweeps.{second-kept}
use Rattle.swept.proofs.two_of.Goals as goal

pub get-requires : goal.get-requires
get-requires c = second-kept c.requires.pair_pre.1 _ c.requires.f_lt_j.0 c.requires.f_lt_j.1

pub returns : goal.returns
unfolding two_of
returns c = rw (c.multiplier_before-first.ensures, c.get.ensures)
