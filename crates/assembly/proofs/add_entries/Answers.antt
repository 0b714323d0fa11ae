-- What `assembly::add_entries` owes. Assumes nothing.
use Rattle.model.specs.Matrix.{vec, naturals}
use Rattle.assembly.proofs.Laws.{place_in, entries-step, entries-end}
use borrow.Author.Rules.{rules}
use Rattle.assembly.proofs.add_entries.Goals as goal

pub add_at-requires : goal.add_at-requires
unfolding naturals
add_at-requires c = place_in _ _ _ _ _ _ _ c.requires c.loop-k-test.true c.loop-k.invariant.0

pub loop-k-preserved : goal.loop-k-preserved
unfolding naturals vec
loop-k-preserved c = (search rules, entries-step _ _ _ _ _ _ _ _ c.loop-k-test.true c.add_at.ensures c.loop-k.invariant.1)

pub returns : goal.returns
returns c = search entries-end
