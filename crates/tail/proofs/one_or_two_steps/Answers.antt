-- `tail::one_or_two_steps` meets its contract: what a step or two make of the part that is lent is made of the panel, and they are taken off the steps that are
-- left. Assumes nothing.
use mathlib.Core.Path.{refl}
use native.Mathlib.Omega.{arith}
use Rattle.model.proofs.Past.{starts-past}
use Rattle.tail.proofs.Asked.{here-pre, lent-place, lent-pre, read-pre, past-later, still-first}
use Rattle.tail.proofs.Lent.{part_count, lent_rows}
use Rattle.tail.proofs.Laws.{stepped-since, both-since, turned-step, turned-both}
use Rattle.tail.proofs.one_or_two_steps.Goals as goal

-- the step at l, which begins where the one at k ends
pub stays-requires-clause-here_pre : goal.stays-requires-clause-here_pre
stays-requires-clause-here_pre c = let paired = c.requires.steps_pre.recorded.paired in
    here-pre _ _ _ _ _ c.requires.steps_pre c.if-l-at.true (starts-past _ _ _ _ paired c.requires.begins_pre.inside c.past-l.ensures)

pub tail_pair-requires : goal.tail_pair-requires
tail_pair-requires c =
    record {
      lent_pre =
          lent-pre _ _ _ _ _ _ _ _ _ _ _ _ c.requires.tail_pre c.requires.begins_pre.inside _
          (part_count _ _ c.args.panel.now refl _ c.place-start.ensures);
      read_pre = read-pre _ _ _ _ _ _ _ _ _ _ _ _ c.requires.tail_pre c.requires.begins_pre.inside c.requires.begins_pre.from;
      both_pre = record {
        first = here-pre _ _ _ _ _ c.requires.steps_pre c.requires.begins_pre.inside c.requires.begins_pre.starts;
        second =
            here-pre _ _ _ _ _ c.requires.steps_pre c.if-l-at.true
            (starts-past _ _ _ _ c.requires.steps_pre.recorded.paired c.requires.begins_pre.inside c.past-l.ensures);
        next = c.past-l.ensures;
        inside = c.if-l-at.true;
        stays = still-first _ _ _ c.stays.ensures c.if-stays.true;
      };
    }

pub returns-then-stays-clause-panel_after : goal.returns-then-stays-clause-panel_after
returns-then-stays-clause-panel_after c = let steps = c.requires.steps_pre in
    let k-in = c.requires.begins_pre.inside in
    let room = lent-place _ _ _ _ _ _ _ _ _ _ _ _ c.requires.tail_pre k-in _ c.place-start.ensures in
    let more = past-later _ _ _ c.past-l.ensures in
    let here = here-pre _ _ _ _ _ steps k-in c.requires.begins_pre.starts in
    let there = here-pre _ _ _ _ _ steps c.if-l-at.true (starts-past _ _ _ _ steps.recorded.paired k-in c.past-l.ensures) in
    let pair = both-since _ _ _ _ _ _ _ _ here there (omega arith) in
    let rows = lent-pre _ _ _ _ _ _ _ _ _ _ _ _ c.requires.tail_pre k-in _ (part_count _ _ c.args.panel.now refl _ c.place-start.ensures) in
    turned-both _ _ _ _ _ _ _ _ _ _ _ k-in c.past-l.ensures _ c.if-l-at.true c.past.ensures
    (lent_rows _ _ _ _ _ _ rows.height c.place-start.ensures refl _ _ room c.tail_pair.auto.part pair c.tail_pair.ensures)

pub returns-then-stays-clause-lower_bound : goal.returns-then-stays-clause-lower_bound
returns-then-stays-clause-lower_bound c = let more = past-later _ _ _ c.past-l.ensures in
    let after = past-later _ _ _ c.past.ensures in
    (omega arith, starts-past _ _ _ _ c.requires.steps_pre.recorded.paired c.if-l-at.true c.past.ensures)

pub tail_step-requires : goal.tail_step-requires
tail_step-requires c =
    record {
      lent_pre =
          lent-pre _ _ _ _ _ _ _ _ _ _ _ _ c.requires.tail_pre c.requires.begins_pre.inside _
          (part_count _ _ c.args.panel.now refl _ c.place-start.ensures);
      read_pre = read-pre _ _ _ _ _ _ _ _ _ _ _ _ c.requires.tail_pre c.requires.begins_pre.inside c.requires.begins_pre.from;
      here_pre = here-pre _ _ _ _ _ c.requires.steps_pre c.requires.begins_pre.inside c.requires.begins_pre.starts;
    }

pub returns-clause-panel_after : goal.returns-clause-panel_after
returns-clause-panel_after c = let k-in = c.requires.begins_pre.inside in
    let room = lent-place _ _ _ _ _ _ _ _ _ _ _ _ c.requires.tail_pre k-in _ c.place-start.ensures in
    let here = here-pre _ _ _ _ _ c.requires.steps_pre k-in c.requires.begins_pre.starts in
    let rows = lent-pre _ _ _ _ _ _ _ _ _ _ _ _ c.requires.tail_pre k-in _ (part_count _ _ c.args.panel.now refl _ c.place-start.ensures) in
    turned-step _ _ _ _ _ _ _ _ _ _ _ k-in c.past-l.ensures
    (lent_rows _ _ _ _ _ _ rows.height c.place-start.ensures refl _ _ room c.tail_step.auto.part (stepped-since _ _ _ _ _ _ _ here)
    c.tail_step.ensures)

pub returns-clause-lower_bound : goal.returns-clause-lower_bound
returns-clause-lower_bound c = let more = past-later _ _ _ c.past-l.ensures in
    (omega arith, starts-past _ _ _ _ c.requires.steps_pre.recorded.paired c.requires.begins_pre.inside c.past-l.ensures)
