-- `update::update` meets its contract: refusals 13 to 16 answer, a descendant with no columns changes nothing, and else its columns do. Assumes nothing.
use mathlib.Core.Path.{sym}
use Rattle.std.proofs.lemmas.Result.{err_from_is_err_and}
use Rattle.update.proofs.Called.{lists-pre, update-refuses, update-none, update-columns}
use Rattle.update.proofs.update.Goals as goal

pub returns-in_err-lists_check : goal.returns-in_err-lists_check
returns-in_err-lists_check c =
    let p = err_from_is_err_and c.from_residual.result c.from_residual.ensures.1 in
    rw (p.1, p.2) (update-refuses _ _ _ _ c.lists_check.ensures _ _ c.in_err-lists_check.was (sym c.in_err-lists_check.was))

pub returns-then-k-eq0 : goal.returns-then-k-eq0
returns-then-k-eq0 c = update-none _ _ _ _ c.lists_check.ensures c.in_ok-lists_check.was c.if-k-eq0.true

pub update_columns-requires : goal.update_columns-requires
update_columns-requires c = lists-pre _ _ _ _ c.lists_check.ensures c.in_ok-lists_check.was c.if-k-eq0.false

pub returns : goal.returns
returns c = update-columns _ _ _ _ c.lists_check.ensures c.in_ok-lists_check.was _ c.update_columns.ensures
