-- `eliminate::head_one` meets its contract: columns make the model's rows. Assumes nothing.
use Rattle.eliminate.proofs.Rows.{one-head, one_kept}
use Rattle.eliminate.proofs.head_one.Goals as goal

pub returns : goal.returns
returns c = record { rows = search one-head; kept = search one_kept }
