-- `lapack::to_check` meets its contract: the first of the checks that refuses is the answer. Assumes nothing.
use mathlib.Core.Path.{sym, ◌∙◌}
use Rattle.std.proofs.lemmas.Result.{err_from_is_err_and}
use Rattle.lapack.proofs.Calls.{order-few, to-sizes, to-order, to-bytes}
use Rattle.lapack.proofs.to_check.Goals as goal

pub returns-in_err-sizes_check : goal.returns-in_err-sizes_check
returns-in_err-sizes_check c =
    let p = err_from_is_err_and c.from_residual.result c.from_residual.ensures.1 in
    rw (p.1, p.2) (sym c.in_err-sizes_check.was ∙ to-sizes _ _ _ _ _ c.sizes_check.ensures _ c.in_err-sizes_check.was)

pub first_bad_row-requires : goal.first_bad_row-requires
first_bad_row-requires c = order-few _ _ _ _ _ c.sizes_check.ensures c.in_ok-sizes_check.was

pub returns-in_err-first_bad_row : goal.returns-in_err-first_bad_row
returns-in_err-first_bad_row c =
    let p = err_from_is_err_and c.from_residual-in_err-first_bad_row.result c.from_residual-in_err-first_bad_row.ensures.1 in
    rw (p.1, p.2) (sym c.in_err-first_bad_row.was
    ∙ to-order _ _ _ _ _ c.sizes_check.ensures c.in_ok-sizes_check.was _ c.first_bad_row.ensures _ c.in_err-first_bad_row.was)

pub returns : goal.returns
returns c = to-bytes _ _ _ _ _ c.sizes_check.ensures c.in_ok-sizes_check.was _ c.first_bad_row.ensures c.in_ok-first_bad_row.was _ c.first_bad_byte.ensures
