-- `solve::solve_check` meets its contract: the first of the five checks that refuses is the answer. Assumes nothing.
use mathlib.Core.Path.{sym, ◌∙◌}
use Rattle.std.proofs.lemmas.Result.{err_from_is_err_and}
use Rattle.solve.proofs.Checks.{order-few, check-shape, check-lengths, check-order, check-bytes, check-numbers}
use borrow.Author.Rules.{rules}
use Rattle.solve.proofs.solve_check.Goals as goal

pub returns-then-not-square_sound : goal.returns-then-not-square_sound
returns-then-not-square_sound c = search check-shape

pub returns-then-not-lengths_sound : goal.returns-then-not-lengths_sound
returns-then-not-lengths_sound c = search check-lengths

pub first_bad_row-requires : goal.first_bad_row-requires
first_bad_row-requires c = order-few _ _ _ _ _ c.square_sound.ensures (search rules) _ c.lengths_sound.ensures (search rules)

pub returns-in_err-first_bad_row : goal.returns-in_err-first_bad_row
returns-in_err-first_bad_row c =
    let p = err_from_is_err_and c.from_residual.result c.from_residual.ensures.1 in
    rw (p.1, p.2) (sym c.in_err-first_bad_row.was
    ∙ check-order _ _ _ _ _ c.square_sound.ensures (search rules) _ c.lengths_sound.ensures (search rules) _ c.first_bad_row.ensures
    _ c.in_err-first_bad_row.was)

pub returns-in_err-first_bad_byte : goal.returns-in_err-first_bad_byte
returns-in_err-first_bad_byte c =
    let p = err_from_is_err_and c.from_residual-in_err-first_bad_byte.result c.from_residual-in_err-first_bad_byte.ensures.1 in
    rw (p.1, p.2) (sym c.in_err-first_bad_byte.was
    ∙ check-bytes _ _ _ _ _ c.square_sound.ensures (search rules) _ c.lengths_sound.ensures (search rules) _ c.first_bad_row.ensures c.in_ok-first_bad_row.was
    _ c.first_bad_byte.ensures _ c.in_err-first_bad_byte.was)

pub returns : goal.returns
returns c =
    check-numbers _ _ _ _ _ c.square_sound.ensures (search rules) _ c.lengths_sound.ensures (search rules) _ c.first_bad_row.ensures c.in_ok-first_bad_row.was
    _ c.first_bad_byte.ensures _ c.in_ok-first_bad_byte.was c.first_bad_number.ensures
