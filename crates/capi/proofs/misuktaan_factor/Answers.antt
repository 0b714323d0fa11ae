-- `capi::misuktaan_factor` meets its contract: the numbers of the factor call's answer, beside the buffers as it left them, which are those that
-- were lent. Assumes nothing.
use Rattle.capi.proofs.Laws.{factor-left}
use borrow.Author.Rules.{rules}
use Rattle.capi.proofs.misuktaan_factor.Goals as goal

pub returns : goal.returns
returns c =
    let same = c.factor.ensures.same in
    let panel = same.panel.name in
    let d = same.d.name in
    let sub = same.sub.name in
    let blocks = same.blocks.name in
    let lifts = same.lifts.name in
    let amounts = same.amounts.name in
    let tests = same.tests.name in
    let order = same.order.name in
    let marks = same.marks.name in
    let work = same.work.name in
    let left = factor-left c.into.ensures (rw c.mode_of-mode.ensures at c.factor.ensures.value) in
    search rules
