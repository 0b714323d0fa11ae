-- `assembly::add_at` meets its contract: the store is the matrix's. Assumes nothing.
use Rattle.assembly.proofs.Laws.{added-set}
use borrow.Author.Rules.{rules}
use Rattle.assembly.proofs.add_at.Goals as goal

pub returns : goal.returns
returns c = search (rules, added-set)
