-- The state after a panel, over the whole panel and over the head: the two have one head, and a tail row comes from the head's panel and the row alone.
-- Assumes nothing.
use Prim.Native.Nat.{ℕ, ◌+◌, ◌-◌, ◌<◌, ◌≤◌, min}
use mathlib.Core.Path.{◌≡◌, refl, sym, ◌∙◌, ap, fun_ext}
use native.Mathlib.Omega.{arith}
use borrow.Author.Tests.{le-leb, lt-leb, ltb-true, ltb-false}
use lib.Dec.{ltb}
use Rattle.model.specs.Matrix.{Row, Mat, head_of, row_of}
use Rattle.model.specs.Step.{row_after_steps}
use Rattle.model.specs.Panel.{row_after_panel}
use Rattle.model.specs.Head.{State, blank, closed, passed}
use Rattle.model.proofs.Cases.{test}
use Rattle.model.proofs.Independence.{same_head}
use Rattle.whole.specs.Whole.{below, whole_closed, deferred_rows, whole_passed, cut_state}
use Rattle.whole.proofs.Masked.{within_in, within-before, within-past, head_at}
use Rattle.whole.proofs.Steps.{PivotsInside}
use Rattle.whole.proofs.Rows.{row_at, head-row, steps-cut, deferred-past, deferred-alike, panel-cut}

-- the state at the start of the next panel, over the whole panel and over the head
abbrev pub whole_next : ℕ → ℕ → ℕ → ℕ → State → State
whole_next nrow ncol kb ke t = whole_passed nrow ncol (whole_closed nrow kb ke t) t

abbrev pub head_next : ℕ → ℕ → State → State
head_next kb ke u = passed (closed kb ke u) u

-- ---- the rows of the whole panel

module _ (nrow ncol kb ke : ℕ) (t : State) where
  pub whole_row : (i : ℕ) → ke ≤ i → i < nrow → (whole_next nrow ncol kb ke t).a i ≡ row_after_panel (whole_closed nrow kb ke t) (min (i + 1) ncol) (t.a i)
  unfolding whole_passed whole_closed deferred_rows below row_after_panel
  whole_row i h l = rw (within_in ke nrow i h l)

  pub whole_before : (i : ℕ) → i < ke → (whole_next nrow ncol kb ke t).a i ≡ t.a i
  unfolding whole_passed whole_closed deferred_rows below
  whole_before i h = rw (within-before ke nrow i h)

  pub whole-past : (i : ℕ) → nrow ≤ i → (whole_next nrow ncol kb ke t).a i ≡ t.a i
  unfolding whole_passed whole_closed deferred_rows below
  whole-past i h = rw (within-past ke nrow i h)

-- ---- the rows of the head

module _ (kb ke : ℕ) (u : State) where
  later-row : (i : ℕ) → ke ≤ i → (head_next kb ke u).a i ≡ row_after_panel (closed kb ke u) (i + 1) (u.a i)
  unfolding passed closed
  later-row i h = rw (le-leb ke i h)

  later-before : (i : ℕ) → i < ke → (head_next kb ke u).a i ≡ u.a i
  unfolding passed closed
  later-before i h = rw (lt-leb ke i h)

-- ---- both

-- the state with b for its matrix
abbrev pub with_head : State → Mat → State
with_head t b = record { a = b; mult = t.mult; pivots = t.pivots; rounds = t.rounds }

-- a row after the steps of columns kb to ke
abbrev through : ℕ → ℕ → State → Row → Row
through kb ke t r = row_after_steps t.pivots.diagonals t.pivots.partners t.mult ke (ke - kb) kb r

module _ (nrow ncol kb ke : ℕ) (t : State) (b : Mat) (w : PivotsInside ke t.pivots) (hk : ke ≤ ncol) (hn : ncol ≤ nrow)
    (e : head_of ncol t.a ≡ head_of ncol b) where
  -- the head's rows before the panel
  row-alike : (i : ℕ) → i < ncol → row_of (i + 1) (t.a i) ≡ row_of (i + 1) (b i)
  row-alike i h = sym (head-row ncol t.a i h) ∙ ap (λ (x : Mat). x i) e ∙ head-row ncol b i h

  -- and after its steps, in its columns
  through-cut : (i k : ℕ) (r : Row) → ke ≤ i → k < ke → through kb ke t (row_of (i + 1) r) k ≡ through kb ke t r k
  through-cut i k r h x =
      ap (λ (s : Row). s k) (steps-cut t.pivots.diagonals t.pivots.partners t.mult ke w (ke - kb) kb (i + 1) r (omega arith)) ∙ row_at (i + 1) (through kb ke t r) k (omega arith)

  below_alike : (i k : ℕ) → ke ≤ i → i < ncol → k < ke → (whole_closed nrow kb ke t).below i k ≡ through kb ke t (b i) k
  unfolding whole_closed below
  below_alike i k h l x =
      rw (within_in ke nrow i h (omega arith))
      (sym (through-cut i k (t.a i) h x) ∙ ap (λ (r : Row). through kb ke t r k) (row-alike i l) ∙ through-cut i k (b i) h x)

  -- a row cut at `end`
  panel-alike : (end : ℕ) (r : Row) → ke ≤ end → end ≤ ncol
      → row_of end (row_after_panel (whole_closed nrow kb ke t) end r) ≡ row_after_panel (closed kb ke (with_head t b)) end (row_of end r)
  unfolding whole_closed closed row_after_panel
  panel-alike end r h l =
      let p = whole_closed nrow kb ke t in
      let q = closed kb ke (with_head t b) in
      let s = through kb ke t (row_of end r) in
      sym (panel-cut p w end r h)
      ∙ (fun_ext λ j. test (ltb j end)
      (λ x. deferred-alike t.pivots.diagonals kb ke w.pair p.below q.below end s s j h (ltb-true j end x) (λ c y. refl) (λ c k y z v. below_alike c k y (omega arith) v))
      (λ x. deferred-past t.pivots.diagonals kb ke p.below end s j (ltb-false j end x)
      ∙ sym (deferred-past t.pivots.diagonals kb ke q.below end s j (ltb-false j end x))))

  -- a tail row
  pub tail-passed : (i : ℕ) → ncol ≤ i → i < nrow
      → row_of ncol ((whole_next nrow ncol kb ke t).a i) ≡ row_after_panel (closed kb ke (with_head t b)) ncol (row_of ncol (t.a i))
  tail-passed i h l =
      ap (λ (r : Row). row_of ncol r) (whole_row nrow ncol kb ke t i (omega arith) l
      ∙ ap (λ (end : ℕ). row_after_panel (whole_closed nrow kb ke t) end (t.a i)) (omega arith))
      ∙ panel-alike ncol (t.a i) hk (omega arith)

  -- the head
  later-alike : (i j : ℕ) → j ≤ i → i < ncol → ke ≤ i → (whole_next nrow ncol kb ke t).a i j ≡ (head_next kb ke (with_head t b)).a i j
  unfolding closed
  later-alike i j h l k =
      let p = whole_closed nrow kb ke t in
      let q = closed kb ke (with_head t b) in
      ap (λ (r : Row). r j) (whole_row nrow ncol kb ke t i k (omega arith) ∙ ap (λ (end : ℕ). row_after_panel p end (t.a i)) (omega arith))
      ∙ sym (row_at (i + 1) (row_after_panel p (i + 1) (t.a i)) j (omega arith))
      ∙ ap (λ (r : Row). r j) (panel-alike (i + 1) (t.a i) (omega arith) (omega arith) ∙ ap (λ (r : Row). row_after_panel q (i + 1) r) (row-alike i l)
      ∙ panel-cut q w (i + 1) (b i) (omega arith))
      ∙ row_at (i + 1) (row_after_panel q (i + 1) (b i)) j (omega arith)
      ∙ ap (λ (r : Row). r j) (sym (later-row kb ke (with_head t b) i k))

  before-alike : (i j : ℕ) → j ≤ i → i < ncol → i < ke → (whole_next nrow ncol kb ke t).a i j ≡ (head_next kb ke (with_head t b)).a i j
  before-alike i j h l k =
      ap (λ (r : Row). r j) (whole_before nrow ncol kb ke t i k)
      ∙ sym (head_at ncol t.a i j h l) ∙ ap (λ (x : Mat). x i j) e ∙ head_at ncol b i j h l
      ∙ ap (λ (r : Row). r j) (sym (later-before kb ke (with_head t b) i k))

  head_passed : head_of ncol (whole_next nrow ncol kb ke t).a ≡ head_of ncol (head_next kb ke (with_head t b)).a
  head_passed =
      same_head ncol (whole_next nrow ncol kb ke t).a (head_next kb ke (with_head t b)).a
      (λ i j h l. test (ltb i ke) (λ x. before-alike i j h l (ltb-true i ke x)) (λ x. later-alike i j h l (ltb-false i ke x)))

  pub state-passed : cut_state ncol (whole_next nrow ncol kb ke t) ≡ cut_state ncol (head_next kb ke (with_head t b))
  unfolding cut_state whole_passed passed
  state-passed = λ i. record { a = head_passed i; mult = blank; pivots = t.pivots; rounds = t.rounds }
