-- What `update_rows::update_rows` owes. Assumes nothing.
use Rattle.update_rows.proofs.Landing.{rows_step, rows_end}
use borrow.Author.Rules.{rules}
use Rattle.update_rows.proofs.update_rows.Goals as goal

pub loop-c-preserved : goal.loop-c-preserved
loop-c-preserved c = (
  search rules,
  search rules,
  rows_step _ _ _ _ _ _ _ _ _ c.loop-c-test.true c.update_row.ensures c.loop-c.invariant.2,
)

pub returns : goal.returns
returns c = search rows_end
