-- `update_rows::less_at` meets its contract: the store is the matrix's. Assumes nothing.
use Rattle.update_rows.proofs.Less.{less-set}
use borrow.Author.Rules.{rules}
use Rattle.update_rows.proofs.less_at.Goals as goal

pub returns : goal.returns
returns c = search (rules, less-set)
