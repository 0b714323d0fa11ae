-- `lapack::pair_sound` meets its contract: the definition by its tests. Assumes nothing.
use mir.Syntax.{w32}
use mir.Val.{SFits}
use lib.ListN.{get_or}
use Rattle.std.specs.Prelude.{pos, ◌+◌}
use borrow.Author.Rules.{rules}
use Rattle.lapack.proofs.FromWalk.{negative-own, pair-positive, pair-same, pair-last}
use Rattle.lapack.proofs.pair_sound.Goals as goal

pub returns-then-not-is_negative : goal.returns-then-not-is_negative
returns-then-not-is_negative c =
    let own : SFits w32 (get_or c.args.list.now c.args.k.0 (pos 0)) = search rules in
    pair-positive _ _ own _ (negative-own _ _ own _ c.is_negative.ensures) c.if-not-is_negative.true

pub returns-then-k-list : goal.returns-then-k-list
returns-then-k-list c =
    let own : SFits w32 (get_or c.args.list.now c.args.k.0 (pos 0)) = search rules in
    let next : SFits w32 (get_or c.args.list.now (c.args.k.0 + 1) (pos 0)) = search rules in
    pair-same _ _ own _ _ (negative-own _ _ own _ c.is_negative.ensures) c.if-not-is_negative.false c.if-k-list.true next c.same_number.ensures

pub returns-else-k-list : goal.returns-else-k-list
returns-else-k-list c =
    let own : SFits w32 (get_or c.args.list.now c.args.k.0 (pos 0)) = search rules in
    pair-last _ _ own _ (negative-own _ _ own _ c.is_negative.ensures) c.if-not-is_negative.false c.if-k-list.false
