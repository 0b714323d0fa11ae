-- `products::scale_column` meets its contract: what is lent is a column of g and one of the panel. Assumes nothing.
use Rattle.products.proofs.Product.{scale-lent}
use borrow.Author.Rules.{rules}
use Rattle.products.proofs.scale_column.Goals as goal

pub returns : goal.returns
returns c = search (rules, scale-lent)
