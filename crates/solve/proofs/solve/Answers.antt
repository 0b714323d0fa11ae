-- `solve::solve` meets its contract: a check that refuses is the answer and nothing is written; past it the steps make the definition's solution.
-- Assumes nothing.
use native.Mathlib.Omega.{arith}
use Rattle.std.proofs.lemmas.Result.{err_from_is_err_and}
use Rattle.solve.proofs.Checks.{few-columns, work-lent, substitute-pre, solve-done, solve-refuses}
use borrow.Author.Rules.{rules}
use Rattle.solve.proofs.solve.Goals as goal

pub returns-in_err-solve_check : goal.returns-in_err-solve_check
returns-in_err-solve_check c =
    let p = err_from_is_err_and c.from_residual.result c.from_residual.ensures.1 in
    rw (p.1, p.2) (solve-refuses _ _ _ _ _ c.solve_check.ensures _ c.in_err-solve_check.was)

pub slice_bounds-y-end : goal.slice_bounds-y-end
slice_bounds-y-end c = omega (arith, few-columns _ _ _ _ _ c.solve_check.ensures c.in_ok-solve_check.was)

pub substitute-requires : goal.substitute-requires
substitute-requires c =
    let lent = work-lent _ _ _ _ _ c.solve_check.ensures c.in_ok-solve_check.was _ (search rules) in
    substitute-pre _ _ _ _ _ c.solve_check.ensures c.in_ok-solve_check.was _ lent

pub returns : goal.returns
returns c =
    let lent = work-lent _ _ _ _ _ c.solve_check.ensures c.in_ok-solve_check.was _ (search rules) in
    solve-done _ _ _ _ _ c.solve_check.ensures c.in_ok-solve_check.was _ _ lent (search rules) c.substitute.ensures
