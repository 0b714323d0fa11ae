-- `exchange::exchange_if` meets its contract: an exchange of a place with itself is none. Assumes nothing.
use Rattle.exchange.proofs.Laws.{exchanged_same}
use Rattle.exchange.proofs.exchange_if.Goals as goal

pub returns-else-p-q : goal.returns-else-p-q
returns-else-p-q c = search exchanged_same
