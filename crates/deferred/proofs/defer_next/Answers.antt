-- `deferred::defer_next` meets its contract: two columns, or one. Assumes nothing.
use Rattle.deferred.proofs.Columns.{pair-pre}
use Rattle.deferred.proofs.Parts.{from-diagonal}
use borrow.Author.Rules.{rules}
use Rattle.deferred.proofs.defer_next.Goals as goal

pub defer_two-requires : goal.defer_two-requires
defer_two-requires c = search pair-pre

pub returns : goal.returns
returns c = record { panel_after = search from-diagonal; value = search rules }
