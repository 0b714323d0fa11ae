-- `diagonal::last_column` meets its contract: a block's last column is one further. Assumes nothing.
use Rattle.diagonal.proofs.Laws.{last_by}
use Rattle.diagonal.proofs.last_column.Goals as goal

pub returns : goal.returns
returns c = search last_by
