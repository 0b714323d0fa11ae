-- Assembly: entries added to a panel as listed. From docs/SCOPE.md, "Assembly", and refusals 10 to 12. Definitions only. Assumes nothing.
use Rattle.std.specs.Prelude.{Bool, cond, not, ◌&&◌, List, ℕ, zero, suc, ◌+◌, ◌*◌, leb, ltb, eqb, length, Float, Ok, Err}
use Rattle.model.specs.Scalar.{◌⊕◌, is_finite}
use Rattle.model.specs.Matrix.{Row, Mat, view, vec, naturals, column_major}
use Rattle.model.specs.Factor.{shape_sound}
use Rattle.model.specs.Answer.{Said, accepted, or_else, refuse_if, turned_away, Check}
use Rattle.model.specs.declared.Refusal.{Refusal}
use Rattle.model.specs.declared.Refusal.TheVariants.{AssemblyLength, AssemblyPlace, AssemblyNumber}

-- the entries: local rows, columns and numbers
pub record Entries : Type 0 where
  pub rows : List ℕ
  pub cols : List ℕ
  pub numbers : List Float

-- refusal 10
unfoldable pub entries_sound : ℕ → ℕ → Entries → List Float → Bool
entries_sound ncol nrow es panel =
    shape_sound ncol nrow && (eqb (length es.cols) (length es.rows) && (eqb (length es.numbers) (length es.rows) && eqb (length panel) (nrow * ncol)))

-- the first of m places from k on at which f does not hold, and what is refused there
unfoldable pub first_not : (ℕ → Bool) → (ℕ → Refusal) → ℕ → ℕ → Check
first_not f at zero k = Ok tt
first_not f at (suc m) k =
    let rest = first_not f at m (k + 1) in
    cond (f k) rest (Err (at k))

-- refusal 11 is not met at entry k: its place is a lower position of the panel
unfoldable pub place_sound : ℕ → ℕ → (ℕ → ℕ) → (ℕ → ℕ) → ℕ → Bool
place_sound ncol nrow rows cols k = ltb (rows k) nrow && (ltb (cols k) ncol && leb (cols k) (rows k))

unfoldable pub assembly_check : ℕ → ℕ → Entries → List Float → Check
assembly_check ncol nrow es panel =
    or_else (refuse_if (not (entries_sound ncol nrow es panel)) AssemblyLength)
    (or_else (first_not (place_sound ncol nrow (naturals es.rows) (naturals es.cols)) AssemblyPlace (length es.rows) 0)
    (first_not (λ k. is_finite (vec es.numbers k)) AssemblyNumber (length es.rows) 0))

-- a with v added at row i, column j
unfoldable pub added_at : Mat → ℕ → ℕ → Float → Mat
added_at a i j v = λ p q. let sum = a p q ⊕ v in cond (eqb p i && eqb q j) sum (a p q)

-- m entries from k on, each added to what stands at its place, one after another as listed
unfoldable pub assembled_from : (ℕ → ℕ) → (ℕ → ℕ) → Row → ℕ → ℕ → Mat → Mat
assembled_from rows cols numbers zero k a = a
assembled_from rows cols numbers (suc m) k a = assembled_from rows cols numbers m (k + 1) (added_at a (rows k) (cols k) (numbers k))

-- what a call leaves: its answer and the panel
pub record Panelled : Type 0 where
  pub answer : Said (Unit {0})
  pub panel : List Float

abbrev pub panel_after : Check → List Float → List Float → Panelled
panel_after (Ok u) new panel = record { answer = accepted tt; panel = new }
panel_after (Err r) new panel = record { answer = turned_away r; panel = panel }

unfoldable pub assembly_of : ℕ → ℕ → Entries → List Float → Panelled
assembly_of ncol nrow es panel =
    let new =
    column_major nrow ncol
    (assembled_from (naturals es.rows) (naturals es.cols) (vec es.numbers) (length es.rows) 0 (view nrow panel)) in
    panel_after (assembly_check ncol nrow es panel) new panel
