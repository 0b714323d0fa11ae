-- `notes::note` meets its contract: the eight buffers are the record `noted`. Assumes nothing.
use mathlib.Core.Path.{refl}
use Rattle.model.specs.Step.{recorded_in}
use Rattle.model.proofs.Stores.{both-vec, both-naturals}
use Rattle.notes.proofs.Laws.{swapped-twice, block-byte, lift-told, amount-told, noted-is}
use Rattle.notes.proofs.note.Goals as goal

pub returns-clause-value : goal.returns-clause-value
returns-clause-value c = let a = c.args in
    let h = c.requires in
    let byte = block-byte _ _ _ c.is_block.ensures c.from-block.ensures in
    let lifted = lift-told a.v.lift _ _ c.is_some.ensures c.from-lifted.ensures in
    let amount = amount-told a.v.lift _ c.unwrap_or-amount.ensures in
    noted-is (recorded_in a.r.now) _ _ _ _ _ _ _ _ a.k.0 a.e.0 a.v
    (both-vec _ _ _ _ _ _ _ _ c.put_both.ensures c.first_number.ensures c.last_number.ensures h.from h.d)
    (both-vec _ _ _ _ _ _ _ _ c.put_both-2.ensures c.under_number.ensures refl h.from h.sub)
    (both-naturals _ _ _ _ _ _ _ _ c.put_both-3.ensures byte refl h.from h.blocks)
    (both-naturals _ _ _ _ _ _ _ _ c.put_both-4.ensures refl refl h.from h.partners)
    (both-naturals _ _ _ _ _ _ _ _ c.put_both-5.ensures lifted lifted h.from h.lifts)
    (both-vec _ _ _ _ _ _ _ _ c.put_both-6.ensures amount amount h.from h.amounts)
    (both-naturals _ _ _ _ _ _ _ _ c.put_both-7.ensures c.test_number-test.ensures c.test_number-test.ensures h.from h.tests)
    (swapped-twice _ _ _ _ _ _ _ c.put_swap.ensures c.put_swap-2.ensures)
