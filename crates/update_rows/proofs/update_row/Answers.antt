-- What `update_rows::update_row` owes. Assumes nothing.
use mathlib.Core.Path.{refl}
use Rattle.model.specs.Matrix.{naturals}
use Rattle.update_rows.proofs.Landing.{row-none, row_done, lands-from, lands-before, part_step}
use borrow.Author.Rules.{rules}
use Rattle.update_rows.proofs.update_row.Goals as goal

pub returns-then-not-lands : goal.returns-then-not-lands
unfolding naturals
returns-then-not-lands c = search row-none

pub column_of-column-requires : goal.column_of-column-requires
column_of-column-requires c = search lands-from

pub loop-lo-init : goal.loop-lo-init
loop-lo-init c = (search rules, search rules, search lands-before, search rules, search rules, refl)

pub loop-lo-preserved : goal.loop-lo-preserved
loop-lo-preserved c = (
  search rules,
  search rules,
  search rules,
  search rules,
  search rules,
  part_step _ _ _ _ _ _ _ _ _ (search rules) (search rules) c.update_part.ensures c.loop-lo.invariant.5,
)

pub returns : goal.returns
unfolding naturals
returns c = search row_done
