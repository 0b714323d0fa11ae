-- `eliminate::head_two` meets its contract: columns make the model's rows. Assumes nothing.
use Rattle.eliminate.proofs.Rows.{two-head}
use borrow.Author.Rules.{rules}
use Rattle.eliminate.proofs.head_two.Goals as goal

pub returns : goal.returns
returns c = record { rows = search (rules, two-head); kept = search rules }
