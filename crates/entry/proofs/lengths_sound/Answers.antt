-- `entry::lengths_sound` meets its contract: the expression is the definition, and no stated length overflows. Assumes nothing.
use Rattle.model.specs.Factor.{lengths_sound}
use borrow.Author.Rules.{rules}
use Rattle.entry.proofs.lengths_sound.Goals as goal

pub returns : goal.returns
unfolding lengths_sound
returns c = search rules
