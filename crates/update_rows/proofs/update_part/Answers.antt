-- `update_rows::update_part` meets its contract: acc of the part's rows, by the descendant's rows, is what they lose. Assumes nothing.
use Rattle.update_rows.proofs.Landing.{part-done}
use Rattle.update_rows.proofs.update_part.Goals as goal

pub returns : goal.returns
returns c = search part-done
