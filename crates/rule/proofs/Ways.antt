-- The ways through the tests of the choice, each as the code goes it, with the root or without it, and the rows that a choice can name. Assumes nothing.
use mathlib.Core.Path.{◌≡◌, refl, sym, ◌∙◌, subst}
use mathlib.Core.Bool.{true, false}
use Prim.Native.Nat.{ℕ, ◌+◌, ◌-◌, ◌*◌, ◌<◌}
use native.Mathlib.Omega.{arith}
use lib.Ieee.{Float, nan, inf, fin, up, down, mul, le, eq, of_bits}
use Rattle.model.specs.Scalar.{◌⊗◌, ◌⊘◌, zero_f, magnitude_of, square_of, maximum_of}
use Rattle.model.specs.Root.{sqrt_of, alpha}
use Rattle.model.specs.Matrix.{Mat}
use Rattle.model.specs.Choice.{none_yet, column_greatest, row_greatest, with_row, choose_of}
use Rattle.model.specs.Head.{last_of}
use Rattle.model.specs.declared.LocalRow.{LocalRow}
use Rattle.model.specs.declared.Greatest.{Greatest}
use Rattle.model.specs.declared.Choice.{Choice}
use Rattle.model.specs.declared.Choice.TheVariants.{ZeroColumn, Single, Block}
use Rattle.model.specs.declared.PivotTest.{PivotTest}
use Rattle.model.specs.declared.PivotTest.TheVariants as by
use Rattle.model.proofs.Bounds.{ChoiceIn, choose-in}
use Rattle.greatest.proofs.Squares.{greatest-keeps}
use Rattle.rule.specs.Chosen.{by_row, ChoiceWithin}
use Rattle.rule.specs.Reach.{Reaches, ReachPre}
use Rattle.rule.proofs.Units.{ahead-unsigned, ahead-round}

-- a choice stands within the panel, a block's second row below k
pub chosen : (a : Mat) (k ke : ℕ) (c : Choice) → k < ke → c ≡ choose_of a k ke → (c ≡ choose_of a k ke) × ChoiceWithin k ke c
unfolding last_of
chosen a k ke c h e = (e, go c (subst (λ (x : Choice). ChoiceIn k ke x) (sym e) (choose-in a k ke h)))
  where
    go : (c : Choice) → ChoiceIn k ke c → ChoiceWithin k ke c
    go ZeroColumn w = tt
    go (Single c) w = record { low = w.from; high = w.row }
    go (Block c) w = (record { low = omega (arith, w.own); high = omega (arith, w.own, w.from, w.row) }, record { low = w.from; high = w.row })

abbrev here : PivotTest → ℕ → Choice
here t k = Single (with_row t k (record { 0 = k }))

-- ---- the own diagonal's test without the root: neither the diagonal's magnitude nor the greatest square has a sign

square-unsigned : (x : Float) → magnitude_of (square_of x) ≡ square_of x
unfolding magnitude_of mul
square-unsigned nan = refl
square-unsigned (inf true) = refl
square-unsigned (inf false) = refl
square-unsigned (fin true m e) = ahead-unsigned _ (ahead-round (m * up e * (m * up e)) (down e * down e))
square-unsigned (fin false m e) = ahead-unsigned _ (ahead-round (m * up e * (m * up e)) (down e * down e))

zero-unsigned : magnitude_of zero_f ≡ zero_f
unfolding magnitude_of of_bits
zero-unsigned = refl

magnitude-unsigned : (x : Float) → magnitude_of (magnitude_of x) ≡ magnitude_of x
unfolding magnitude_of
magnitude-unsigned nan = refl
magnitude-unsigned (inf s) = refl
magnitude-unsigned (fin s m e) = refl

pub unsigned-both : (a : Mat) (k ke : ℕ) (x own : Float) (g : Greatest) → own ≡ magnitude_of x → g ≡ column_greatest a k ke → ReachPre own g.square
unfolding column_greatest
unsigned-both a k ke x own g eo eg = record {
  diagonal = subst (λ (y : Float). magnitude_of y ≡ y) (sym eo) (magnitude-unsigned x);
  column =
      subst (λ (c : Greatest). magnitude_of c.square ≡ c.square) (sym eg)
      (greatest-keeps (λ c. magnitude_of c.square ≡ c.square) (λ i. a i k) (ke - (k + 1)) (k + 1) (none_yet k) zero-unsigned
      (λ i l u. square-unsigned (a i k)));
}

pub way-reached : (a : Mat) (k ke : ℕ) (x own : Float) (g : Greatest) → x ≡ a k k → own ≡ magnitude_of x → g ≡ column_greatest a k ke
    → Reaches own g.square → here by.OwnDiagonal k ≡ choose_of a k ke
unfolding choose_of
way-reached a k ke x own g ex eo eg r = rw (← eg, ← ex, ← eo, r.nonzero, r.taken)

-- ---- the tests with the root

-- x is the diagonal as read and own its magnitude, g the greatest square of the column and colmax its root, t the greater of own and colmax
module _ (a : Mat) (k ke : ℕ) (x own colmax t : Float) (g : Greatest) (ex : x ≡ a k k) (eo : own ≡ magnitude_of x)
    (eg : g ≡ column_greatest a k ke) (ec : colmax ≡ sqrt_of g.square) (et : t ≡ maximum_of own colmax) where
  pub way-zero : eq t zero_f ≡ true → ZeroColumn ≡ choose_of a k ke
  unfolding choose_of
  way-zero h = rw (← eg, ← ex, ← eo, ← ec, ← et, h)

  module _ (bar : Float) (eb : bar ≡ alpha ⊗ colmax) (h : eq t zero_f ≡ false) where
    pub way-own : le bar own ≡ true → here by.OwnDiagonal k ≡ choose_of a k ke
    unfolding choose_of
    way-own p = rw (← eg, ← ex, ← eo, ← ec, ← et, ← eb, h, p)

    -- c is what the tests of row g .at choose
    pub way-rest : (c : Choice) → le bar own ≡ false → c ≡ by_row a k ke own colmax g.at → c ≡ choose_of a k ke
    unfolding choose_of by_row
    way-rest c p e = e ∙ rw (← eg, ← ex, ← eo, ← ec, ← et, ← eb, h, p)

-- ---- the tests of row imax

-- r is the greatest square of row and column imax, rowmax its root
module _ (a : Mat) (k ke : ℕ) (own colmax bar rowmax : Float) (imax : LocalRow) (r : Greatest) (eb : bar ≡ alpha ⊗ colmax)
    (er : r ≡ row_greatest a k ke imax.0) (ew : rowmax ≡ sqrt_of r.square) where
  pub way-row : le (bar ⊗ (colmax ⊘ rowmax)) own ≡ true → here by.RowTest k ≡ by_row a k ke own colmax imax
  unfolding by_row
  way-row q = rw (← er, ← ew, ← eb, q)

  -- y is the other diagonal and other its magnitude
  module _ (y other reach : Float) (ey : y ≡ a imax.0 imax.0) (eu : other ≡ magnitude_of y) (ef : reach ≡ alpha ⊗ rowmax)
      (q : le (bar ⊗ (colmax ⊘ rowmax)) own ≡ false) where
    pub way-other : le reach other ≡ true → Single (with_row by.ExchangedDiagonal k imax) ≡ by_row a k ke own colmax imax
    unfolding by_row
    way-other w = rw (← er, ← ew, ← eb, ← ey, ← eu, ← ef, q, w)

    pub way_block : le reach other ≡ false → Block (with_row by.Block k imax) ≡ by_row a k ke own colmax imax
    unfolding by_row
    way_block w = rw (← er, ← ew, ← eb, ← ey, ← eu, ← ef, q, w)
