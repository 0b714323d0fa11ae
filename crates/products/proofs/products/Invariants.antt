-- `products::products` meets its contract. The invariant: the products of the columns before k are there.
-- Assumes nothing.
use Prim.Native.Nat.{◌-◌}
use mathlib.Core.Path.{◌≡◌}
use Rattle.model.specs.Matrix.{view}
use Rattle.model.specs.Step.{diagonals_in}
use Rattle.products.specs.Products.{with_products}
use Rattle.products.proofs.products.Given as goal

abbrev pub invariant-loop-k : goal.invariant-loop-k
invariant-loop-k l =
    view l.nrow l.g ≡ with_products (view l.nrow l.initial.g) (diagonals_in l.x) (view l.nrow l.panel) l.kb l.ke l.nrow (l.k - l.kb)
