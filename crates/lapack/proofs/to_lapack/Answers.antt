-- `lapack::to_lapack` meets its contract: a check or a walk that refuses is the answer, and nothing is written; past both the list is what the walk made, and
-- comes back. Assumes nothing.
use native.Mathlib.Omega.{arith}
use mathlib.Core.Path.{refl, ◌∙◌}
use Rattle.std.proofs.lemmas.Result.{err_from_is_err_and}
use Rattle.lapack.proofs.Calls.{to-refuses, to-few, sound-pre, to-room, to-copied, to-late, to-done, to-gives, part-count}
use Rattle.lapack.proofs.to_lapack.Goals as goal

pub returns-in_err-to_check-clause-leaves : goal.returns-in_err-to_check-clause-leaves
returns-in_err-to_check-clause-leaves c =
    let p = err_from_is_err_and c.from_residual.result c.from_residual.ensures.1 in
    rw (p.1, p.2) (to-refuses _ _ _ _ _ c.to_check.ensures _ c.in_err-to_check.was)

pub slice_bounds-rows-end : goal.slice_bounds-rows-end
slice_bounds-rows-end c = omega (arith, to-few _ _ _ _ _ c.to_check.ensures c.in_ok-to_check.was)

pub slice_bounds-numbers-end : goal.slice_bounds-numbers-end
slice_bounds-numbers-end c = omega (arith, to-few _ _ _ _ _ c.to_check.ensures c.in_ok-to_check.was)

pub list_pivots-requires-clause-sound : goal.list_pivots-requires-clause-sound
list_pivots-requires-clause-sound c = sound-pre _ _ _ _ _ c.to_check.ensures c.in_ok-to_check.was

pub list_pivots-requires-clause-room : goal.list_pivots-requires-clause-room
list_pivots-requires-clause-room c =
    let few = to-few _ _ _ _ _ c.to_check.ensures c.in_ok-to_check.was in
    to-room _ _ _ _ _ c.to_check.ensures c.in_ok-to_check.was _ _ (part-count _ _ few refl) (part-count _ _ few refl)

pub returns-in_err-list_pivots-clause-leaves : goal.returns-in_err-list_pivots-clause-leaves
returns-in_err-list_pivots-clause-leaves c =
    let p = err_from_is_err_and c.from_residual-in_err-list_pivots.result c.from_residual-in_err-list_pivots.ensures.1 in
    rw (p.1, p.2) (to-late _ _ _ _ _ c.to_check.ensures c.in_ok-to_check.was _ _ _ c.in_err-list_pivots.was c.list_pivots.ensures.listed)

pub copy_from_slice-requires : goal.copy_from_slice-requires
copy_from_slice-requires c =
    let few = to-few _ _ _ _ _ c.to_check.ensures c.in_ok-to_check.was in
    to-copied _ _ _ _ _ c.to_check.ensures c.in_ok-to_check.was _ (c.list_pivots.ensures.same.1 ∙ part-count _ _ few refl)

pub returns-clause-leaves : goal.returns-clause-leaves
returns-clause-leaves c =
    let few = to-few _ _ _ _ _ c.to_check.ensures c.in_ok-to_check.was in
    to-done _ _ _ _ _ c.to_check.ensures c.in_ok-to_check.was _ _ _ _ c.in_ok-list_pivots.was c.list_pivots.ensures.listed c.copy_from_slice.ensures.after
    (c.list_pivots.ensures.same.1 ∙ part-count _ _ few refl)

pub returns-clause-again : goal.returns-clause-again
returns-clause-again c h = to-gives _ _ _ _ _ (returns-clause-leaves c)
