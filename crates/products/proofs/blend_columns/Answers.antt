-- `products::blend_columns` meets its contract: what is lent is a column of g and two of the panel. Assumes nothing.
use Rattle.products.proofs.Product.{blend-lent}
use borrow.Author.Rules.{rules}
use Rattle.products.proofs.blend_columns.Goals as goal

pub returns : goal.returns
returns c = search (rules, blend-lent)
