-- What `lapack::read_pivots` owes. Assumes nothing.
use native.Mathlib.Omega.{arith}
use mathlib.Core.Path.{◌∙◌}
use borrow.Author.Rules.{rules}
use Rattle.std.proofs.lemmas.Result.{err_from_is_err_and}
use Rattle.model.proofs.Walk.{walk-on, walk-stop, walk-end}
use Rattle.model.proofs.Lapack.{read-up}
use Rattle.lapack.proofs.Stepped.{taken, refused}
use Rattle.lapack.proofs.FromWalk.{from-begins, from-goes}
use Rattle.lapack.proofs.read_pivots.Goals as goal

pub loop-k-init : goal.loop-k-init
loop-k-init c =
    let b = from-begins _ _ _ _ _ c.in_order.ensures c.requires.rows (search rules) in
    (omega arith, b.0, search rules, b.1)

pub read_pivot-requires : goal.read_pivot-requires
read_pivot-requires c = record { few = c.requires.few; here = c.loop-k-test.true; rows = c.loop-k.invariant.1; bytes = c.loop-k.invariant.2 }

pub returns-in_err-k-clause-read : goal.returns-in_err-k-clause-read
returns-in_err-k-clause-read c =
    let p = err_from_is_err_and c.from_residual.result c.from_residual.ensures.1 in
    let stopped = refused _ _ _ _ c.read_pivot.ensures.read c.in_err-k.was in
    rw (p.1, p.2) (walk-stop _ _ _ _ _ _ c.loop-k-test.true stopped c.loop-k.invariant.3)

pub loop-k-smaller : goal.loop-k-smaller
loop-k-smaller c =
    let g = from-goes _ _ _ _ _ _ _ c.loop-k-test.true c.read_pivot.ensures.read c.in_ok-k.was in
    omega (arith, g.0, g.1)

pub loop-k-preserved : goal.loop-k-preserved
loop-k-preserved c =
    let i = c.loop-k.invariant in
    let same = c.read_pivot.ensures.same in
    let g = from-goes _ _ _ _ _ _ _ c.loop-k-test.true c.read_pivot.ensures.read c.in_ok-k.was in
    let step = taken _ _ _ _ c.read_pivot.ensures.read c.in_ok-k.was in
    (g.0, same.0 ∙ i.1, same.1 ∙ i.2, walk-on _ _ (read-up _ _) _ _ _ _ _ c.loop-k-test.true step i.3)

pub returns-clause-read : goal.returns-clause-read
returns-clause-read c = walk-end _ _ _ _ _ c.loop-k-test.false c.loop-k.invariant.3
