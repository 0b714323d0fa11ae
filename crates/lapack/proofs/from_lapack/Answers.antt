-- `lapack::from_lapack` meets its contract: a check or a walk that refuses is the answer, and nothing is written; past both order and block bytes are what the
-- walk made, and come back. Assumes nothing.
use native.Mathlib.Omega.{arith}
use mathlib.Core.Path.{refl, ◌∙◌}
use Rattle.std.proofs.lemmas.Result.{err_from_is_err_and}
use Rattle.lapack.proofs.Calls.{from-refuses, from-few, lists-pre, from-room, from-late, from-done, from-gives, part-count}
use Rattle.lapack.proofs.from_lapack.Goals as goal

pub returns-in_err-sizes_check-clause-leaves : goal.returns-in_err-sizes_check-clause-leaves
returns-in_err-sizes_check-clause-leaves c =
    let p = err_from_is_err_and c.from_residual.result c.from_residual.ensures.1 in
    rw (p.1, p.2) (from-refuses _ _ _ _ _ c.sizes_check.ensures _ c.in_err-sizes_check.was)

pub slice_bounds-rows-end : goal.slice_bounds-rows-end
slice_bounds-rows-end c = omega (arith, from-few c.args.ncol c.args.list.now c.args.order.now c.args.blocks.now _ c.sizes_check.ensures c.in_ok-sizes_check.was)

pub slice_bounds-bytes-end : goal.slice_bounds-bytes-end
slice_bounds-bytes-end c =
    omega (arith, from-few c.args.ncol c.args.list.now c.args.order.now c.args.blocks.now _ c.sizes_check.ensures c.in_ok-sizes_check.was)

pub read_pivots-requires : goal.read_pivots-requires
read_pivots-requires c =
    let few = from-few _ _ _ _ _ c.sizes_check.ensures c.in_ok-sizes_check.was in
    lists-pre _ _ _ _ _ c.sizes_check.ensures c.in_ok-sizes_check.was _ _ (part-count _ _ few refl) (part-count _ _ few refl)

pub returns-in_err-read_pivots-clause-leaves : goal.returns-in_err-read_pivots-clause-leaves
returns-in_err-read_pivots-clause-leaves c =
    let p = err_from_is_err_and c.from_residual-in_err-read_pivots.result c.from_residual-in_err-read_pivots.ensures.1 in
    rw (p.1, p.2) (from-late _ _ _ _ _ c.sizes_check.ensures c.in_ok-sizes_check.was _ _ _ c.in_err-read_pivots.was c.read_pivots.ensures.read)

pub copy_from_slice-requires : goal.copy_from_slice-requires
copy_from_slice-requires c =
    let few = from-few _ _ _ _ _ c.sizes_check.ensures c.in_ok-sizes_check.was in
    let same = c.read_pivots.ensures.same in
    (from-room _ _ _ _ _ c.sizes_check.ensures c.in_ok-sizes_check.was _ _ (same.0 ∙ part-count _ _ few refl) (same.1 ∙ part-count _ _ few refl)).0

pub returns-clause-leaves : goal.returns-clause-leaves
returns-clause-leaves c =
    let few = from-few _ _ _ _ _ c.sizes_check.ensures c.in_ok-sizes_check.was in
    let same = c.read_pivots.ensures.same in
    from-done _ _ _ _ _ c.sizes_check.ensures c.in_ok-sizes_check.was _ _ _ _ _ c.in_ok-read_pivots.was c.read_pivots.ensures.read
    c.copy_from_slice.ensures.after c.copy_from_slice-2.ensures.after (same.0 ∙ part-count _ _ few refl) (same.1 ∙ part-count _ _ few refl)

pub returns-clause-again : goal.returns-clause-again
returns-clause-again c h = from-gives _ _ _ _ _ _ (returns-clause-leaves c)
