-- What `lapack::read_pivot` owes. Assumes nothing.
use mathlib.Core.Path.{refl}
use mir.Syntax.{w32}
use mir.Val.{SFits}
use lib.ListN.{get_or}
use Rattle.std.specs.Prelude.{pos}
use borrow.Author.Rules.{rules}
use Rattle.lapack.proofs.FromWalk.{negative-own, size-own, pair-refused, number-refused, read-done}
use Rattle.lapack.proofs.read_pivot.Goals as goal

pub returns-then-not-pair_sound-clause-read : goal.returns-then-not-pair_sound-clause-read
returns-then-not-pair_sound-clause-read c = pair-refused _ _ _ _ _ c.pair_sound.ensures c.if-not-pair_sound.true

pub returns-then-not-e-place-clause-read : goal.returns-then-not-e-place-clause-read
returns-then-not-e-place-clause-read c =
    let own : SFits w32 (get_or c.args.list.now c.args.k.0 (pos 0)) = search rules in
    number-refused _ _ _ _ _ c.pair_sound.ensures c.if-not-pair_sound.false _ (negative-own _ _ own _ c.is_negative-block.ensures) _ _ c.last_column-e.ensures
    (size-own _ _ own _ c.place_named-place.ensures) c.if-not-e-place.true

pub returns-clause-read : goal.returns-clause-read
returns-clause-read c =
    let own : SFits w32 (get_or c.args.list.now c.args.k.0 (pos 0)) = search rules in
    read-done _ _ _ _ _ _ _ _ _ _ _ _ c.requires c.pair_sound.ensures c.if-not-pair_sound.false (negative-own _ _ own _ c.is_negative-block.ensures)
    c.last_column-e.ensures (size-own _ _ own _ c.place_named-place.ensures) c.if-not-e-place.false (c.swap.ensures.by_index.3 0) c.from.ensures refl
