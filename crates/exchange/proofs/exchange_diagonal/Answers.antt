-- `exchange::exchange_diagonal` meets its contract: one pair. Assumes nothing.
use Rattle.exchange.proofs.Parts.{diagonal-step}
use borrow.Author.Rules.{rules}
use Rattle.exchange.proofs.exchange_diagonal.Goals as goal

pub returns : goal.returns
returns c = search (rules, diagonal-step)
