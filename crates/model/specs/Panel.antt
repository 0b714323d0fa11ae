-- A finished panel, and what it does to a row below it. From docs/SCOPE.md, "The rows below a panel" and "The later columns".
-- Definitions only. Assumes nothing.
use Rattle.std.specs.Prelude.{cond, List, [], ◌∷◌, ℕ, zero, suc, ◌+◌, ◌-◌, Float}
use Rattle.model.specs.Scalar.{◌⊕◌, ◌⊖◌, ◌⊗◌, zero_f}
use Rattle.model.specs.Matrix.{Row, Mat, within}
use Rattle.model.specs.Step.{Diagonals, begins, ends_block, row_after_steps}

-- columns kb to ke, D, the rows exchanged, the multipliers of its steps, and the head's rows from ke on after the steps
pub record Panel : Type 0 where
  pub kb : ℕ
  pub ke : ℕ
  pub diagonals : Diagonals
  pub partners : ℕ → ℕ
  pub mult : Mat
  pub below : Mat

-- 'L·D of x's row': 'l·d', or 'a·d11 + b·d21' in a block's first column and 'a·d21 + b·d22' in its second
unfoldable pub times_d : Diagonals → Row → Row
times_d D r = λ c.
    let plain = r c ⊗ D.d c in
    let first = r c ⊗ D.d c ⊕ r (c + 1) ⊗ D.sub c in
    let second = r (c - 1) ⊗ D.sub (c - 1) ⊕ r c ⊗ D.d c in
    cond (begins D.blocks c) first (cond (ends_block D.blocks c) second plain)

-- the sum of f over n places from c on, in order, on top of acc
unfoldable pub sum_from : Row → ℕ → ℕ → Float → Float
sum_from f c zero acc = acc
sum_from f c (suc n) acc = sum_from f (c + 1) n (acc ⊕ f c)

-- 'acc': from +0.0 on, for each of the columns kb to ke in order, L-as-D of x's row, formed first, times L of its column's row: l is x's row, m its column's row
abbrev pub acc_of : Diagonals → (kb ke : ℕ) → Row → Row → Float
acc_of D kb ke l m = sum_from (λ k. times_d D l k ⊗ m k) kb (ke - kb) zero_f

-- the row l less acc, in the columns from ke on and before `end`; L of their rows stands in `below`
unfoldable pub row_deferred : Diagonals → (kb ke : ℕ) → Mat → ℕ → Row → Row
row_deferred D kb ke below end l = λ c.
    let less = l c ⊖ acc_of D kb ke l (below c) in
    cond (within ke end c) less (l c)

-- a row below the panel goes through its steps, then loses acc
unfoldable pub row_after_panel : Panel → ℕ → Row → Row
row_after_panel p end r =
    row_deferred p.diagonals p.kb p.ke p.below end (row_after_steps p.diagonals p.partners p.mult p.ke (p.ke - p.kb) p.kb r)

-- a tail row goes through all panels in turn
unfoldable pub tail_row_of : ℕ → List Panel → Row → Row
tail_row_of ncol [] r = r
tail_row_of ncol (p ∷ ps) r = tail_row_of ncol ps (row_after_panel p ncol r)
