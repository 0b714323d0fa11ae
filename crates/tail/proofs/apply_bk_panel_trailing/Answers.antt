-- What `tail::apply_bk_panel_trailing` owes. Assumes nothing.
use Rattle.tail.proofs.Laws.{tail-end}
use Rattle.tail.proofs.apply_bk_panel_trailing.Goals as goal

pub returns : goal.returns
returns c = search tail-end
