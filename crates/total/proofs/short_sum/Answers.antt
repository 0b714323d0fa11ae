-- What `total::short_sum` owes. Assumes nothing.
use Rattle.std.proofs.lemmas.List.{length-drop, get_or-drop, get_or-take}
use Rattle.total.proofs.Sums.{short-turn, sum-end}
use borrow.Author.Rules.{rules}
use Rattle.total.proofs.short_sum.Goals as goal

pub loop-x-preserved : goal.loop-x-preserved
loop-x-preserved c = search (rules, short-turn, get_or-take, get_or-drop)

pub returns : goal.returns
returns c = sum-end _ _ c.loop-x.x-index _ _ (search (rules, length-drop)) c.loop-x.invariant
