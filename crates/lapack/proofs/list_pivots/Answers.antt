-- What `lapack::list_pivots` owes. Assumes nothing.
use native.Mathlib.Omega.{arith}
use mathlib.Core.Path.{◌∙◌}
use borrow.Author.Rules.{rules}
use Rattle.std.proofs.lemmas.Result.{err_from_is_err_and}
use Rattle.model.proofs.Walk.{walk-on, walk-stop, walk-end}
use Rattle.model.proofs.Forth.{listed-up}
use Rattle.lapack.proofs.Stepped.{taken, refused}
use Rattle.lapack.proofs.ToWalk.{sound-in, to-begins, to-goes}
use Rattle.lapack.proofs.list_pivots.Goals as goal

pub loop-k-init : goal.loop-k-init
loop-k-init c =
    let b = to-begins _ _ _ _ _ _ c.in_order.ensures c.requires.room.0 (search rules) in
    (omega arith, b.0, search rules, b.1, b.2)

pub list_pivot-requires-clause-pivot : goal.list_pivot-requires-clause-pivot
list_pivot-requires-clause-pivot c = record { here = c.loop-k-test.true; room = c.loop-k.invariant.1; standing = c.loop-k.invariant.3 }

pub list_pivot-requires-clause-room : goal.list_pivot-requires-clause-room
list_pivot-requires-clause-room c = c.loop-k.invariant.2

pub returns-in_err-k-clause-listed : goal.returns-in_err-k-clause-listed
returns-in_err-k-clause-listed c =
    let p = err_from_is_err_and c.from_residual.result c.from_residual.ensures.1 in
    let stopped = refused _ _ _ _ c.list_pivot.ensures.listed c.in_err-k.was in
    rw (p.1, p.2) (walk-stop _ _ _ _ _ _ c.loop-k-test.true stopped c.loop-k.invariant.4)

pub loop-k-smaller : goal.loop-k-smaller
loop-k-smaller c =
    let g = to-goes _ _ _ _ _ _ _ _ _ _ c.requires.sound
    (record { here = c.loop-k-test.true; room = c.loop-k.invariant.1; standing = c.loop-k.invariant.3 }) c.list_pivot.ensures.listed c.in_ok-k.was in
    omega (arith, g.0, g.1)

pub loop-k-preserved : goal.loop-k-preserved
loop-k-preserved c =
    let i = c.loop-k.invariant in
    let same = c.list_pivot.ensures.same in
    let g = to-goes _ _ _ _ _ _ _ _ _ _ c.requires.sound (record { here = c.loop-k-test.true; room = i.1; standing = i.3 })
    c.list_pivot.ensures.listed c.in_ok-k.was in
    let step = taken _ _ _ _ c.list_pivot.ensures.listed c.in_ok-k.was in
    let up = listed-up _ _ _ (sound-in _ _ _ c.requires.sound) in
    (g.0, same.0 ∙ i.1, same.1 ∙ i.2, g.2, walk-on _ _ up _ _ _ _ _ c.loop-k-test.true step i.4)

pub returns-clause-listed : goal.returns-clause-listed
returns-clause-listed c = walk-end _ _ _ _ _ c.loop-k-test.false c.loop-k.invariant.4
