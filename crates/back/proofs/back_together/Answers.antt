-- `back::back_together` meets its contract: the sums of four columns begun together, then two positions and two more. Assumes nothing.
use native.Mathlib.Omega.{arith}
use Rattle.model.specs.Matrix.{vec}
use Rattle.back.proofs.Turns.{two-pre, four-back}
use borrow.Author.Rules.{rules}
use Rattle.back.proofs.back_together.Goals as goal

pub two_back-requires : goal.two_back-requires
two_back-requires c = two-pre _ _ _ _ _ _ _ c.requires (search rules) c.past_four-hi.ensures (omega arith) (omega arith)

pub two_back-requires-2 : goal.two_back-requires-2
two_back-requires-2 c = two-pre _ _ _ _ _ _ _ c.requires (search rules) c.past_four-hi.ensures (omega arith) (omega arith)

pub returns : goal.returns
unfolding vec
returns c = four-back _ _ _ _ _ _ _ _ _ _ _ _ _ c.requires.columns c.past_four-hi.ensures c.four_down.ensures.result_value c.four_down.ensures.result_value_2
    c.two_back.ensures (search rules) c.two_back-2.ensures
