-- `inertia::inertia` meets its contract: a check that refuses is the answer, and past it the tally is. Assumes nothing.
use Rattle.std.proofs.lemmas.Result.{err_from_is_err_and}
use Rattle.inertia.proofs.Answered.{checked-lists, inertia-counts, inertia-refuses}
use Rattle.inertia.proofs.inertia.Goals as goal

pub returns-in_err-inertia_check : goal.returns-in_err-inertia_check
returns-in_err-inertia_check c =
    let p = err_from_is_err_and c.from_residual.result c.from_residual.ensures.1 in
    rw (p.1, p.2) (inertia-refuses _ _ _ _ c.inertia_check.ensures _ c.in_err-inertia_check.was)

pub tally-requires : goal.tally-requires
tally-requires c = checked-lists _ _ _ _ c.inertia_check.ensures c.in_ok-inertia_check.was

pub returns : goal.returns
returns c = inertia-counts _ _ _ _ c.inertia_check.ensures _ c.in_ok-inertia_check.was c.tally.ensures
