-- The solve call's arguments and what it leaves, as the definitions have them; what its steps ask of the caller. Definitions only. Assumes nothing.
use Rattle.std.specs.Prelude.{◌≡◌, List, ℕ, ◌*◌, ◌<◌, length, Float}
use Rattle.model.specs.Matrix.{Row, Mat, naturals, with_part}
use Rattle.model.specs.Step.{Diagonals}
use Rattle.model.specs.Kept.{Paired}
use Rattle.model.specs.Answer.{Applied, applied_says}
use Rattle.model.specs.Solve.{Factor, Solved, forward_from, divided, back_from}
use Rattle.solve.specs.declared.Factor as lent

abbrev pub factors_of : List Float → List Float → List Float → List ℕ → List ℕ → Factor
factors_of panel d sub blocks order = record { panel = panel; d = d; sub = sub; blocks = blocks; order = order }

-- the same of what is lent
abbrev pub factor_in : lent.Factor → Factor
factor_in f = factors_of f.panel.now f.diagonals.d.now f.diagonals.sub.now f.diagonals.blocks.now f.order.now

-- the answer and the vector at the end
abbrev pub solve_leaves : Applied → List Float → Solved
solve_leaves r vector = record { answer = applied_says r; vector = vector }

-- the first n numbers of y forward through L, divided by D and back through L, and what is past them as it was
unfoldable pub through_factor : ℕ → Diagonals → Mat → Row → Row
through_factor n D l y =
    let z = forward_from D.blocks l n 0 y in
    back_from D.blocks l n n (with_part z 0 n (divided D z))

-- a factor of n columns with sound block bytes, whose order names places of the vector
pub record SubstitutePre (f : Factor) (len n : ℕ) : Type 0 where
  pub panel : length f.panel ≡ n * n
  pub d : length f.d ≡ n
  pub sub : length f.sub ≡ n
  pub blocks : length f.blocks ≡ n
  pub order : length f.order ≡ n
  pub paired : Paired n (naturals f.blocks)
  pub rows : (k : ℕ) → k < n → naturals f.order k < len
