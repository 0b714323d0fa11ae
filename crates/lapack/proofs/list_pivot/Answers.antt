-- What `lapack::list_pivot` owes. Assumes nothing.
use native.Mathlib.Omega.{arith}
use mathlib.Core.Path.{sym, ◌∙◌}
use Rattle.lapack.proofs.ToWalk.{column_in, place-there, pivot-refused, pivot-done}
use Rattle.lapack.proofs.list_pivot.Goals as goal

pub returns-then-not-stands_first-clause-listed : goal.returns-then-not-stands_first-clause-listed
returns-then-not-stands_first-clause-listed c =
    pivot-refused _ _ _ _ _ c.requires.sound c.requires.pivot _ _ _ c.block_begins-block.ensures c.stands_first.ensures c.if-not-stands_first.true

pub offset_bounds-order-e : goal.offset_bounds-order-e
offset_bounds-order-e c =
    let e = column_in _ _ _ _ _ c.requires.sound c.requires.pivot _ _ c.block_begins-block.ensures c.last_column-e.ensures in
    record { fits = omega (arith, e.1, c.requires.sound.few) }

pub bounds-order-e : goal.bounds-order-e
bounds-order-e c =
    let e = column_in _ _ _ _ _ c.requires.sound c.requires.pivot _ _ c.block_begins-block.ensures c.last_column-e.ensures in
    omega (arith, e.1, c.requires.sound.rows)

pub place_of-p-requires : goal.place_of-p-requires
place_of-p-requires c =
    let e = column_in _ _ _ _ _ c.requires.sound c.requires.pivot _ _ c.block_begins-block.ensures c.last_column-e.ensures in
    omega (arith, e.1, c.requires.pivot.room)

pub swap-requires-clause-a_in_bounds : goal.swap-requires-clause-a_in_bounds
swap-requires-clause-a_in_bounds c =
    let e = column_in _ _ _ _ _ c.requires.sound c.requires.pivot _ _ c.block_begins-block.ensures c.last_column-e.ensures in
    omega (arith, e.1, c.requires.pivot.room)

pub swap-requires-clause-b_in_bounds : goal.swap-requires-clause-b_in_bounds
swap-requires-clause-b_in_bounds c =
    let p = place-there _ _ _ _ _ c.requires.sound c.requires.pivot _ _ _ c.block_begins-block.ensures c.last_column-e.ensures
    (sym c.stands_first.ensures ∙ c.if-not-stands_first.false) c.place_of-p.ensures in
    omega (arith, p.1, c.requires.pivot.room)

pub note_number-requires : goal.note_number-requires
note_number-requires c =
    let e = column_in _ _ _ _ _ c.requires.sound c.requires.pivot _ _ c.block_begins-block.ensures c.last_column-e.ensures in
    let p = place-there _ _ _ _ _ c.requires.sound c.requires.pivot _ _ _ c.block_begins-block.ensures c.last_column-e.ensures
    (sym c.stands_first.ensures ∙ c.if-not-stands_first.false) c.place_of-p.ensures in
    record { order = e.0; room = omega (arith, e.1, c.requires.room); few = omega (arith, p.1, c.requires.sound.few) }

pub overflow_add-result : goal.overflow_add-result
overflow_add-result c =
    let e = column_in _ _ _ _ _ c.requires.sound c.requires.pivot _ _ c.block_begins-block.ensures c.last_column-e.ensures in
    record { fits = omega (arith, e.1, c.requires.sound.few) }

pub returns-clause-listed : goal.returns-clause-listed
returns-clause-listed c =
    pivot-done _ _ _ _ _ c.requires.sound c.requires.pivot _ _ _ _ _ _ _ c.requires.room c.block_begins-block.ensures c.stands_first.ensures
    c.if-not-stands_first.false c.last_column-e.ensures c.place_of-p.ensures (c.swap.ensures.by_index.3 0) c.note_number.ensures.noted
