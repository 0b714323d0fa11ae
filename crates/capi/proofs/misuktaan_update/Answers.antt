-- `capi::misuktaan_update` meets its contract: the numbers of the update call's answer, beside the panel as it left it. Assumes nothing.
use Rattle.capi.proofs.Laws.{panel-left}
use borrow.Author.Rules.{rules}
use Rattle.capi.proofs.misuktaan_update.Goals as goal

pub returns : goal.returns
returns c = search (rules, panel-left)
