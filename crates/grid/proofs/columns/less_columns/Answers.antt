-- `grid::columns::less_columns` meets its contract: what the kernel makes of runs of the panel is made of columns. Assumes nothing.
use Rattle.model.specs.Matrix.{vec, naturals}
use Rattle.grid.proofs.Together.{columns-runs, columns-less}
use borrow.Author.Rules.{rules}
use Rattle.grid.proofs.columns.less_columns.Goals as goal

pub less_ahead-requires : goal.less_ahead-requires
less_ahead-requires g c = let a = c.args in let start = c.column_start-own.ensures in (
  search rules,
  (
    search rules,
    columns-runs a.nrow a.panel.now g.row.N a.k a.j _ a.lo a.hi (naturals c.places-at.result) (search rules) c.requires c.places-at.ensures,
  ),
)

pub returns : goal.returns
returns g c = let a = c.args in let start = c.column_start-own.ensures in
    columns-less a.nrow a.panel.now g.row.N a.k a.j _ a.lo a.hi (naturals c.places-at.result) (search rules) c.requires c.places-at.ensures _ (vec a.m)
    c.less_ahead.ensures
