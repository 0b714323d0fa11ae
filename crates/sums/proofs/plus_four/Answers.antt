-- What `sums::plus_four` owes. Assumes nothing.
use lib.ListN.{length}
use Rattle.model.specs.Matrix.{vec, naturals}
use Rattle.kernels.proofs.Rules.{rule-none}
use Rattle.sums.proofs.Sum.{four-step, runs_there}
use borrow.Author.Rules.{rules}
use Rattle.sums.proofs.plus_four.Goals as goal

pub loop-i-init : goal.loop-i-init
unfolding naturals
loop-i-init c = (runs_there _ _ _ _ _ c.requires, search rule-none, search rule-none)

pub loop-i-preserved : goal.loop-i-preserved
unfolding vec naturals
loop-i-preserved c = let g = c.args in
    let (there, x, y) = c.loop-i.invariant in (
      there,
      four-step _ c.loop-i.x g.g.now (naturals g.at) c.loop-i.i g.n (length g.x.now) (vec g.l) (search rules) c.requires.first (search rules) x,
      four-step _ c.loop-i.y g.g.now (naturals g.at) c.loop-i.i g.n (length g.y.now) (vec g.m) (search rules) c.requires.second (search rules) y,
    )
