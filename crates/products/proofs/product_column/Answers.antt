-- `products::product_column` meets its contract: each way out is a case of the definition. Assumes nothing.
use Rattle.products.proofs.Product.{product-first, product-second, product-plain}
use borrow.Author.Rules.{rules}
use Rattle.products.proofs.product_column.Goals as goal

pub returns-then-x-k-eq1 : goal.returns-then-x-k-eq1
returns-then-x-k-eq1 c = search (rules, product-first)

pub returns-then-ends_block : goal.returns-then-ends_block
returns-then-ends_block c = search (rules, product-second)

pub returns : goal.returns
returns c = search (rules, product-plain)
