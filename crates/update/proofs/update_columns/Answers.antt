-- `update::update_columns` meets its contract: the scans of refusals 17 and 18 answer, or the rows that were located are applied. Assumes nothing.
use mathlib.Core.Path.{refl, sym}
use Rattle.std.proofs.lemmas.Result.{err_from_is_err_and}
use Rattle.update.proofs.Called.{locate-pre, panel-is, columns-absent, columns-number, columns-done}
use borrow.Author.Rules.{rules}
use Rattle.update.proofs.update_columns.Goals as goal

pub locate-requires : goal.locate-requires
locate-requires c = locate-pre _ _ _ c.requires _ _ c.first_landing-start.ensures refl

pub returns-in_err-locate : goal.returns-in_err-locate
returns-in_err-locate c =
    let p = err_from_is_err_and c.from_residual.result c.from_residual.ensures.1 in
    rw (p.1, p.2) (columns-absent _ _ _ c.requires _ c.first_landing-start.ensures _ c.locate.ensures.value _ _
    c.in_err-locate.was (sym c.in_err-locate.was))

pub returns-in_err-first_bad_column : goal.returns-in_err-first_bad_column
returns-in_err-first_bad_column c =
    let p = err_from_is_err_and c.from_residual-in_err-first_bad_column.result c.from_residual-in_err-first_bad_column.ensures.1 in
    rw (p.1, p.2) (columns-number _ _ _ c.requires _ c.first_landing-start.ensures _ c.locate.ensures.value _ c.in_ok-locate.was
    c.first_bad_column.ensures _ _ c.in_err-first_bad_column.was (sym c.in_err-first_bad_column.was))

pub returns : goal.returns
returns c =
    columns-done _ _ _ c.requires _ c.first_landing-start.ensures _ c.locate.ensures.value _ c.in_ok-locate.was
    c.first_bad_column.ensures _ c.in_ok-first_bad_column.was
    (panel-is _ _ _ c.requires _ c.first_landing-start.ensures _ (c.locate.ensures.located c.in_ok-locate.was)
    _ _ (search rules) refl c.update_rows.ensures)
