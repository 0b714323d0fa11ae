-- `deferred::deferred_update` meets its contract: the products, then the later columns. Assumes nothing.
use Rattle.deferred.proofs.Rows.{update-whole}
use borrow.Author.Rules.{rules}
use Rattle.deferred.proofs.deferred_update.Goals as goal

pub returns : goal.returns
returns c = record { panel_after = search update-whole; g_after = search rules }
