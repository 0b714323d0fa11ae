-- `grid::columns::less_if` meets its contract, where m is a zero and where it is none. Assumes nothing.
use mathlib.Core.Path.{◌∙◌, ap}
use mathlib.Core.List.{[], ◌∷◌}
use Rattle.model.specs.Matrix.{Row, vec, view, with_column}
use Rattle.grid.proofs.Parts.{less-if-yes, less-if-no}
use Rattle.grid.proofs.Together.{columns-one}
use borrow.Author.Rules.{rules}
use Rattle.grid.proofs.columns.less_if.Goals as goal

pub returns-then-m : goal.returns-then-m
unfolding vec
returns-then-m c = let a = c.args in
    less-if-yes (view a.nrow a.panel.now) _ _ a.j a.lo a.hi a.m (search rules)
    (c.less_columns.ensures ∙ ap (λ (N : Row). with_column (view a.nrow a.panel.now) a.j a.lo a.hi N) (columns-one (view a.nrow a.panel.now) a.k a.j (vec (a.m ∷ []))))

pub returns-else-m : goal.returns-else-m
returns-else-m c = search (rules, less-if-no)
