-- `divide::divide_two` meets its contract: the two stores are the definition's numbers. Assumes nothing.
use Rattle.divide.proofs.Laws.{two-put}
use Rattle.divide.proofs.divide_two.Goals as goal

pub returns : goal.returns
returns c = search two-put
