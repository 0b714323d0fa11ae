-- `sums::add_one` meets its contract: one term. Assumes nothing.
use Rattle.sums.proofs.Sum.{one-term}
use borrow.Author.Rules.{rules}
use Rattle.sums.proofs.add_one.Goals as goal

pub returns : goal.returns
returns c = search (rules, one-term)
