-- One panel's turn: its steps, the rows below, the later columns. Assumes nothing.
use mathlib.Core.Path.{◌≡◌, ◌∙◌, ap, fun_ext}
use mathlib.Core.List.{List}
use Prim.Native.Nat.{ℕ, ◌+◌, ◌-◌, min}
use native.Mathlib.Omega.{arith}
use borrow.Author.Tests.{le-ltb, leb-true}
use lib.Dec.{leb}
use lib.Ieee.{Float}
use Rattle.model.specs.Matrix.{Row, Mat, view, within}
use Rattle.model.specs.Step.{Diagonals, Pivots, row_after_steps}
use Rattle.model.specs.Panel.{row_deferred}
use Rattle.model.specs.Head.{State, going, panel_of, blank}
use Rattle.model.specs.declared.Frame.{Frame}
use Rattle.model.specs.declared.Pivoting.{Pivoting}
use Rattle.model.specs.declared.Refusal.{Refusal}
use Rattle.model.proofs.Cases.{test}
use Rattle.whole.specs.Whole.{below, whole_closed, deferred_rows, whole_passed}
use Rattle.eliminate.specs.Eliminate.{in_panel}
use Rattle.bunch_kaufman.specs.Slices.{state}
use Rattle.bunch_kaufman.specs.Answers.{progress}
use Rattle.panels.specs.Turn.{between, onward, turn_of}
use Rattle.std.specs.Prelude.{Ok, Err}

-- no row below
pub rows-none : (nrow ke : ℕ) (f : Row → Row) (a : Mat) → ke ≡ nrow → a ≡ below ke nrow f a
unfolding below
rows-none nrow ke f a e = fun_ext λ i. test (leb ke i) (λ u. rw (u, le-ltb i nrow (omega (arith, leb-true ke i u)))) (λ u. rw u)

-- no later column
pub deferred-none : (nrow ncol : ℕ) (D : Diagonals) (kb ke : ℕ) (a : Mat) → ke ≡ ncol → a ≡ deferred_rows nrow ncol D kb ke a
unfolding deferred_rows row_deferred
deferred-none nrow ncol D kb ke a e =
    fun_ext λ i. test (within ke nrow i)
    (λ t. rw t (fun_ext λ c. test (leb ke c) (λ u. rw (u, le-ltb c (min (i + 1) ncol) (omega (arith, leb-true ke c u)))) (λ u. rw u)))
    (λ t. rw t)

pub turn_stopped : (how : Pivoting) (nrow ncol kb ke : ℕ) (x : Refusal) (f g : ℕ → State) (s : State)
    → progress (Err x) ke f ≡ panel_of ke how (ke - kb) kb s → progress (Err x) ke g ≡ turn_of how nrow ncol kb ke s
unfolding turn_of progress
turn_stopped how nrow ncol kb ke x f g s h = ap (onward nrow ncol kb ke) h

pub turn-done : (how : Pivoting) (at : Frame) (rounds : ℕ) (a a₂ a₃ w : List Float) (p : Pivots) (t : State)
    → progress (Ok rounds) at.ke (state at a w p) ≡ panel_of at.ke how (at.ke - at.kb) at.kb t
    → view at.nrow a₂
    ≡ below at.ke at.nrow (row_after_steps p.diagonals p.partners (in_panel at.kb at.ke (view at.nb w)) at.ke (at.ke - at.kb) at.kb)
    (view at.nrow a)
    → view at.nrow a₃ ≡ deferred_rows at.nrow at.ncol p.diagonals at.kb at.ke (view at.nrow a₂)
    → progress (Ok rounds) at.ke (between at.nrow a₃ p) ≡ turn_of how at.nrow at.ncol at.kb at.ke t
unfolding turn_of whole_passed whole_closed progress
turn-done how at rounds a a₂ a₃ w p t h e₂ e₃ =
    ap (λ (x : Mat). going at.ke (record { a = x; mult = blank; pivots = p; rounds = rounds }))
    (e₃ ∙ ap (deferred_rows at.nrow at.ncol p.diagonals at.kb at.ke) e₂)
    ∙ ap (onward at.nrow at.ncol at.kb at.ke) h
