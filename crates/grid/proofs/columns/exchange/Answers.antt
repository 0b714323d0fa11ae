-- What `grid::columns::exchange` owes. Assumes nothing.
use Rattle.grid.proofs.Exchange.{exchange-same, exchange-lent}
use mathlib.Core.Path.{◌∙◌, ap}
use Rattle.model.specs.Matrix.{column_start}
use borrow.Author.Rules.{rules}
use Rattle.grid.proofs.columns.exchange.Goals as goal

pub returns-then-p-q : goal.returns-then-p-q
returns-then-p-q c = search (rules, exchange-same)

pub returns : goal.returns
returns c = let a = c.args in
    exchange-lent a.nrow a.panel.now a.p a.q c.column_start-early.result c.column_start-late.result a.lo a.hi _ _ _ _ c.requires c.if-p-q.false
    (c.column_start-early.ensures ∙ ap (column_start a.nrow) c.min.ensures) (c.column_start-late.ensures ∙ ap (column_start a.nrow) c.max.ensures)
    c.split_at_mut-before.ensures.front c.split_at_mut-before.ensures.back c.swap_with_slice.ensures.after c.swap_with_slice.ensures.other_after
