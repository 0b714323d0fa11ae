-- What a reader may want to know of solve beside its definition. From docs/SCOPE.md, "Solve". proofs/Solution.antt proves the first three statements,
-- proofs/Identity.antt the last. Definitions only. Assumes nothing.
use Rattle.std.specs.Prelude.{◌≡◌, true, not, List, ℕ, ◌<◌, eqb, length, Float, Ok}
use lib.Ieee.{binary64, eq, fits}
use Rattle.model.specs.Scalar.{zero_f, is_finite}
use Rattle.model.specs.Matrix.{Row, Mat, view, vec, naturals}
use Rattle.model.specs.Step.{Diagonals, diagonals_of}
use Rattle.model.specs.Factor as factor
use Rattle.model.specs.Answer.{accepted, or_else, refuse_if}
use Rattle.model.specs.Independence.{Call, outcome_of}
use Rattle.model.specs.Solve.{Factor, solve_check, check_right_side, has_entry, divided, ordered, solution_of, solve_of}
use Rattle.model.specs.declared.Report.{Report}
use Rattle.model.specs.declared.Refusal.TheVariants.{BufferLength}

-- what a factor call of a root node left in its buffers, as solve takes it
abbrev pub left_in : factor.Buffers → Factor
left_in b = record { panel = b.panel; d = b.d; sub = b.sub; blocks = b.blocks; order = b.order }

-- What an accepted factor call of a root node leaves is refused for the vector alone: for its length (25) or a number of it that is not finite (27), and
-- never with 1, 26 or 16.
abbrev pub RefusedForTheVectorAlone : Type 0
RefusedForTheVectorAlone =
    (x : Call) (r : Report) (vector : List Float) → (outcome_of x).answer ≡ accepted r → x.settings.nrow ≡ x.settings.ncol
    → let n = x.settings.ncol in
    solve_check n n (left_in (outcome_of x).buffers) vector ≡ or_else (refuse_if (not (eqb (length vector) n)) BufferLength) (check_right_side n (vec vector))

-- Solve reads nothing of the panel but the entries of L: two factors that agree in those, and in the rest, are solved alike, whatever their panels hold on the
-- diagonal, above it and inside of the blocks.
pub record SameEntries (ncol nrow : ℕ) (f g : Factor) : Type 0 where
  pub d : f.d ≡ g.d
  pub sub : f.sub ≡ g.sub
  pub blocks : f.blocks ≡ g.blocks
  pub order : f.order ≡ g.order
  pub count : length f.panel ≡ length g.panel
  pub entries : (i j : ℕ) → i < ncol → has_entry (naturals g.blocks) i j ≡ true → view nrow f.panel i j ≡ view nrow g.panel i j

abbrev pub ReadsEntriesAlone : Type 0
ReadsEntriesAlone = (ncol nrow : ℕ) (f g : Factor) (vector : List Float) → SameEntries ncol nrow f g → solve_of ncol nrow f vector ≡ solve_of ncol nrow g vector

-- A right side that is renumbered comes back renumbered: row i of the one system is row p i of the other, in the order as in the right side.
abbrev pub ComesBackRenumbered : Type 0
ComesBackRenumbered =
    (n : ℕ) (D : Diagonals) (l : Mat) (order p : ℕ → ℕ) (b c : Row) → ((i j : ℕ) → p i ≡ p j → i ≡ j) → ((i : ℕ) → c (p i) ≡ b i)
    → (i : ℕ) → solution_of n D l (λ k. p (order k)) c (p i) ≡ solution_of n D l order b i

-- With L the identity, a solve is the division by D. Take an accepted call in which every entry of L is a zero, of either sign, and every quotient of the
-- right side, in the recorded order, by D is finite. Then the number at the row of position k equals quotient k. Equal as `==` has it, under which -0 and +0
-- are equal: no term is left out, and a term of zero can turn -0 into +0, before the division too. `fits` says that a number is one of binary64's, as all
-- numbers of a lent list are; any other a difference would round.
abbrev pub IdentityDivides : Type 0
IdentityDivides =
    (n : ℕ) (f : Factor) (vector : List Float) → solve_check n n f vector ≡ Ok tt → ((i : ℕ) → i < n → fits binary64 (vec vector i) ≡ true)
    → ((i j : ℕ) → i < n → has_entry (naturals f.blocks) i j ≡ true → eq (view n f.panel i j) zero_f ≡ true)
    → let quotient = divided (diagonals_of f.d f.sub f.blocks) (ordered (naturals f.order) (vec vector)) in
    ((k : ℕ) → k < n → is_finite (quotient k) ≡ true)
    → (k : ℕ) → k < n → eq (vec (solve_of n n f vector).vector (naturals f.order k)) (quotient k) ≡ true
