-- What `deferred::defer_columns` owes. Assumes nothing.
use Rattle.deferred.proofs.Parts.{rows_none, rows_step}
use borrow.Author.Rules.{rules}
use Rattle.deferred.proofs.defer_columns.Goals as goal

pub loop-lo-init : goal.loop-lo-init
loop-lo-init c = (search rules, search rules, search rules, search rows_none)

pub loop-lo-preserved : goal.loop-lo-preserved
loop-lo-preserved c = (
  search rules,
  search rules,
  search rules,
  rows_step _ _ _ _ _ _ _ _ _ _ _ _ _ c.requires (search rules) (search rules) (search rules) c.loop-lo.invariant.3 c.defer_rows.ensures,
)
