-- What `bunch_kaufman::ll_bk_panel_step` owes. Assumes nothing.
use Rattle.std.proofs.lemmas.Result.{err_from_is_err_and}
use Rattle.model.proofs.Lent.{record-then}
use Rattle.bunch_kaufman.proofs.Steps.{panel-step, panel-stop, panel-end, note-pre}
use Rattle.bunch_kaufman.proofs.Steps.{next-from, next-in, next-few, next-less, notes-end}
use Rattle.bunch_kaufman.proofs.ll_bk_panel_step.Goals as goal

pub returns-in_err-v-clause-run : goal.returns-in_err-v-clause-run
returns-in_err-v-clause-run c = let p = err_from_is_err_and c.from_residual.result c.from_residual.ensures.1 in
    rw (p.1, p.2) (panel-stop _ _ _ _ _ _ _ _ _ _ c.loop-k.invariant.run c.loop-k-test.true c.step.ensures.mult_after c.in_err-v.was)

pub note-requires : goal.note-requires
note-requires c =
    note-pre _ _ _ _ _ _ _ c.step.ensures.taken_in c.in_ok-v.was c.last_column-e.ensures c.loop-k.invariant.small c.requires.notes_pre c.loop-k.invariant.same

pub loop-k-smaller : goal.loop-k-smaller
loop-k-smaller c = next-less _ _ _ _ c.last_column-e.ensures c.loop-k-test.true

pub loop-k-preserved : goal.loop-k-preserved
loop-k-preserved c = let inv = c.loop-k.invariant in
    let step = c.step.ensures in
    let told = c.in_ok-v.was in
    let e = c.last_column-e.ensures in
    record {
      small = inv.small;
      from = next-from _ _ _ _ e inv.from;
      to = next-in _ _ _ _ _ step.taken_in told e;
      few = next-few _ _ _ _ _ _ step.taken_in told e inv.few;
      same = record-then _ _ _ inv.same c.note.ensures.same;
      run = panel-step _ _ _ _ _ _ _ _ _ _ _ inv.run c.loop-k-test.true step.mult_after told e c.note.ensures.value;
    }

pub returns-clause-run : goal.returns-clause-run
returns-clause-run c = panel-end _ _ _ _ _ _ c.loop-k.invariant.run c.loop-k-test.false c.loop-k.invariant.to

pub returns-clause-ran_to : goal.returns-clause-ran_to
returns-clause-ran_to c = let inv = c.loop-k.invariant in
    notes-end _ _ _ _ _ _ _ c.requires.noted_to c.requires.panel_pre.here inv.run c.loop-k-test.false inv.to inv.few
