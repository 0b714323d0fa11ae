-- `exchange::swap_sym_lower_bounded` meets its contract: the four parts together. Assumes nothing.
use Rattle.exchange.proofs.Whole.{exchange}
use Rattle.exchange.proofs.swap_sym_lower_bounded.Goals as goal

pub returns : goal.returns
returns c = search exchange
