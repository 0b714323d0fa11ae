-- What `products::products` owes. Assumes nothing.
use Rattle.products.proofs.Product.{products-none, products-pre, products-step}
use borrow.Author.Rules.{rules}
use Rattle.products.proofs.products.Goals as goal

pub loop-k-init : goal.loop-k-init
loop-k-init c = search products-none

pub product_column-requires : goal.product_column-requires
product_column-requires c = search (rules, products-pre)

pub loop-k-preserved : goal.loop-k-preserved
loop-k-preserved c = search (rules, products-step)
