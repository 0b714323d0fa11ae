-- What `scan::first_by_columns` owes. Assumes nothing.
use mathlib.Core.Path.{refl, ◌∙◌}
use Rattle.scan.proofs.Finite.{first-low, row-none, row_step, row-stop, row-end, column-none, column-end}
use borrow.Author.Rules.{rules}
use Rattle.scan.proofs.first_by_columns.Goals as goal

pub columns-init : goal.columns-init
columns-init c = (refl, column-none _ _ _)

pub loop-row-init : goal.loop-row-init
loop-row-init c = (search rules, search first-low, search row-none)

pub loop-row-preserved : goal.loop-row-preserved
loop-row-preserved c = (search rules, search rules, search row_step)

pub columns-preserved : goal.columns-preserved
columns-preserved c = (search rules, search row-end)

pub returns-after-columns : goal.returns-after-columns
returns-after-columns c = c.columns.invariant.0 ∙ column-end _ _ _ _ _ (search rules) c.columns.invariant.1

pub returns-then-not-is_finite : goal.returns-then-not-is_finite
returns-then-not-is_finite c = search row-stop
