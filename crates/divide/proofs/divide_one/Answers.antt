-- `divide::divide_one` meets its contract: the store is the definition's number. Assumes nothing.
use Rattle.divide.proofs.Laws.{one-put}
use Rattle.divide.proofs.divide_one.Goals as goal

pub returns : goal.returns
returns c = search one-put
