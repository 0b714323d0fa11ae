-- A row below a panel, cut at a column that is not before the panel's end: the cut goes through the panel's steps and through the later-panel rule.
-- A head row i is cut at i + 1, a tail row at ncol. Assumes nothing.
use Prim.Native.Nat.{ℕ, zero, suc, ◌+◌, ◌-◌, ◌<◌, ◌≤◌}
use mathlib.Core.Path.{◌≡◌, refl, sym, ◌∙◌, ap, fun_ext}
use native.Mathlib.Omega.{arith}
use borrow.Author.Tests.{lt-ltb, le-ltb, eqb-true, ltb-true, ltb-false}
use lib.Dec.{ltb}
use Rattle.model.specs.Scalar.{◌⊗◌, zero_f}
use Rattle.model.specs.Matrix.{Row, Mat, head_of, row_of, exchanged_place}
use Rattle.model.specs.Step.{Step, one, two, row_after_step, Diagonals, begins, past_of, step_at, first_of, arrived, row_stepped, row_after_steps}
use Rattle.model.specs.Panel.{Panel, times_d, acc_of, row_deferred, row_after_panel}
use Rattle.model.proofs.Cases.{test}
use Rattle.model.proofs.Exchanged.{place-under, place-past}
use Rattle.model.proofs.Summed.{sum_alike}
use Rattle.whole.proofs.Masked.{ranged, within-past, head_at, head-up, one_alike, two-alike, one-past, two_past}
use Rattle.whole.proofs.Steps.{Inside}

-- ---- a row cut at column e

pub row_at : (e : ℕ) (r : Row) (j : ℕ) → j < e → row_of e r j ≡ r j
unfolding row_of
row_at e r j h = rw (lt-ltb j e h)

pub row-past : (e : ℕ) (r : Row) (j : ℕ) → e ≤ j → row_of e r j ≡ zero_f
unfolding row_of
row-past e r j h = rw (le-ltb j e h)

-- s is r cut at e
pub is_row : (e : ℕ) (r s : Row) → ((j : ℕ) → j < e → s j ≡ r j) → ((j : ℕ) → e ≤ j → s j ≡ zero_f) → s ≡ row_of e r
is_row e r s f g =
    fun_ext λ j. test (ltb j e)
    (λ t. let h = ltb-true j e t in f j h ∙ sym (row_at e r j h))
    (λ t. let h = ltb-false j e t in g j h ∙ sym (row-past e r j h))

-- the head's row i
pub head-row : (c : ℕ) (a : Mat) (i : ℕ) → i < c → head_of c a i ≡ row_of (i + 1) (a i)
head-row c a i h = is_row (i + 1) (a i) (head_of c a i) (λ j l. head_at c a i j (omega arith) h) (λ j l. head-up c a i j (omega arith))

-- ---- a step

-- its columns and its partner stand before ke
abbrev Before : ℕ → Step → Type 0
Before ke (one k kp d m) = (k < ke) × (kp < ke)
Before ke (two k kp b m1 m2) = (k + 1 < ke) × (kp < ke)

step-before : (ke : ℕ) (D : Diagonals) (q : ℕ → ℕ) (m : Mat) (k : ℕ) → Inside ke D.blocks q → k < ke → Before ke (step_at D q m k)
unfolding step_at
step-before ke D q m k w h =
    test (begins D.blocks k)
    (λ t. rw t (w.pair k (eqb-true (D.blocks k) 1 t), w.partner k))
    (λ t. rw t (h, w.partner k))

step_past : (ke : ℕ) (s : Step) (r : Row) (j : ℕ) → Before ke s → ke ≤ j → row_after_step ke s r j ≡ r j
unfolding row_after_step
step_past ke (one k kp d m) r j w h =
    one-past k kp ke d m (λ b. r (exchanged_place k kp b)) j w.0 h ∙ ap r (place-past k kp ke j w.0 w.1 h)
step_past ke (two k kp b m1 m2) r j w h =
    two_past k kp ke b m1 m2 (λ b. r (exchanged_place (k + 1) kp b)) j w.0 h ∙ ap r (place-past (k + 1) kp ke j w.0 w.1 h)

-- at a column before e it sees no column from e on
step-alike : (ke e : ℕ) (s : Step) (r q : Row) (j : ℕ) → Before ke s → ke ≤ e → j < e → ((b : ℕ) → b < e → r b ≡ q b)
    → row_after_step ke s r j ≡ row_after_step ke s q j
unfolding row_after_step
step-alike ke e (one k kp d m) r q j w h l f =
    let hp : kp < ke = w.1 in
    let hk : k < ke = w.0 in
    let x : (b : ℕ) → b < e → r (exchanged_place k kp b) ≡ q (exchanged_place k kp b) =
    λ b z. f (exchanged_place k kp b) (place-under k kp e b (omega arith) (omega arith) z) in
    one_alike k kp kp ke d m m (λ b. r (exchanged_place k kp b)) (λ b. q (exchanged_place k kp b)) j (x k (omega arith)) (x j l) (λ y z. refl)
step-alike ke e (two k kp b m1 m2) r q j w h l f =
    let hp : kp < ke = w.1 in
    let hk : k + 1 < ke = w.0 in
    let x : (b : ℕ) → b < e → r (exchanged_place (k + 1) kp b) ≡ q (exchanged_place (k + 1) kp b) =
    λ b z. f (exchanged_place (k + 1) kp b) (place-under (k + 1) kp e b (omega arith) (omega arith) z) in
    two-alike k kp kp ke b m1 m2 m1 m2 (λ b. r (exchanged_place (k + 1) kp b)) (λ b. q (exchanged_place (k + 1) kp b)) j
    (x k (omega arith)) (x (k + 1) (omega arith)) (x j l) (λ y z. refl) (λ y z. refl)

step_cut : (ke e : ℕ) (s : Step) (r : Row) → Before ke s → ke ≤ e → row_after_step ke s (row_of e r) ≡ row_of e (row_after_step ke s r)
step_cut ke e s r w h =
    is_row e (row_after_step ke s r) (row_after_step ke s (row_of e r))
    (λ j l. step-alike ke e s (row_of e r) r j w h l (λ b z. row_at e r b z))
    (λ j l. step_past ke s (row_of e r) j w (omega arith) ∙ row-past e r j l)

-- a step with the exchange before it
first-before : (ke : ℕ) (f q : ℕ → ℕ) (k : ℕ) → Inside ke f q → k < ke → first_of f q k < ke
unfolding first_of
first-before ke f q k w h = test (begins f k) (λ t. rw t (w.partner (k + 1))) (λ t. rw t h)

arrived-past : (ke : ℕ) (f q : ℕ → ℕ) (k : ℕ) (r : Row) (j : ℕ) → Inside ke f q → k < ke → ke ≤ j → arrived f q k r j ≡ r j
unfolding arrived
arrived-past ke f q k r j w h l = ap r (place-past k (first_of f q k) ke j h (first-before ke f q k w h) l)

arrived-cut : (ke e : ℕ) (f q : ℕ → ℕ) (k : ℕ) (r : Row) → Inside ke f q → k < ke → ke ≤ e → arrived f q k (row_of e r) ≡ row_of e (arrived f q k r)
unfolding arrived
arrived-cut ke e f q k r w h l =
    let b = first-before ke f q k w h in
    is_row e (arrived f q k r) (arrived f q k (row_of e r))
    (λ j x. row_at e r (exchanged_place k (first_of f q k) j) (place-under k (first_of f q k) e j (omega arith) (omega arith) x))
    (λ j x. ap (row_of e r) (place-past k (first_of f q k) ke j h b (omega arith)) ∙ row-past e r j x)

module _ (D : Diagonals) (q : ℕ → ℕ) (m : Mat) (ke : ℕ) (w : Inside ke D.blocks q) where
  stepped-past : (k : ℕ) (r : Row) (j : ℕ) → k < ke → ke ≤ j → row_stepped D q m ke k r j ≡ r j
  unfolding row_stepped
  stepped-past k r j h l =
      step_past ke (step_at D q m k) (arrived D.blocks q k r) j (step-before ke D q m k w h) l ∙ arrived-past ke D.blocks q k r j w h l

  stepped-cut : (k e : ℕ) (r : Row) → k < ke → ke ≤ e → row_stepped D q m ke k (row_of e r) ≡ row_of e (row_stepped D q m ke k r)
  unfolding row_stepped
  stepped-cut k e r h l =
      ap (row_after_step ke (step_at D q m k)) (arrived-cut ke e D.blocks q k r w h l)
      ∙ step_cut ke e (step_at D q m k) (arrived D.blocks q k r) (step-before ke D q m k w h) l

  -- ---- the panel's steps in turn

  -- columns from ke on stay
  pub steps-past : (n k : ℕ) (r : Row) (j : ℕ) → ke ≤ j → row_after_steps D q m ke n k r j ≡ r j
  unfolding row_after_steps
  steps-past zero k r j h = refl
  steps-past (suc n) k r j h =
      test (ltb k ke)
      (λ t. rw t (steps-past n (past_of D.blocks k) (row_stepped D q m ke k r) j h ∙ stepped-past k r j (ltb-true k ke t) h))
      (λ t. rw t)

  pub steps-cut : (n k e : ℕ) (r : Row) → ke ≤ e → row_after_steps D q m ke n k (row_of e r) ≡ row_of e (row_after_steps D q m ke n k r)
  unfolding row_after_steps
  steps-cut zero k e r h = refl
  steps-cut (suc n) k e r h =
      test (ltb k ke)
      (λ t. rw (t, stepped-cut k e r (ltb-true k ke t) h) (steps-cut n (past_of D.blocks k) e (row_stepped D q m ke k r) h))
      (λ t. rw t)

-- ---- the later-panel rule

module _ (D : Diagonals) (kb ke : ℕ) (pair : (j : ℕ) → D.blocks j ≡ 1 → j + 1 < ke) where
  -- L-as-D before ke sees no column from ke on
  times_d-alike : (r s : Row) (c : ℕ) → c < ke → ((b : ℕ) → b < ke → r b ≡ s b) → times_d D r c ≡ times_d D s c
  unfolding times_d
  times_d-alike r s c h f =
      test (begins D.blocks c)
      (λ t. rw (t, f c h, f (c + 1) (pair c (eqb-true (D.blocks c) 1 t))))
      (λ t. rw (t, f c h, f (c - 1) (omega arith)))

  -- acc is a sum over the panel's columns
  acc-alike : (l q m n : Row) → ((b : ℕ) → b < ke → l b ≡ q b) → ((b : ℕ) → b < ke → m b ≡ n b) → acc_of D kb ke l m ≡ acc_of D kb ke q n
  acc-alike l q m n f g =
      sum_alike (λ k. times_d D l k ⊗ m k) (λ k. times_d D q k ⊗ n k) kb (ke - kb) zero_f
      (λ k x y. let h : k < ke = omega arith in rw (times_d-alike l q k h f, g k h))

-- columns from `end` on stay
pub deferred-past : (D : Diagonals) (kb ke : ℕ) (a : Mat) (end : ℕ) (l : Row) (j : ℕ) → end ≤ j → row_deferred D kb ke a end l j ≡ l j
unfolding row_deferred
deferred-past D kb ke a end l j h = rw (within-past ke end j h)

module _ (D : Diagonals) (kb ke : ℕ) (pair : (j : ℕ) → D.blocks j ≡ 1 → j + 1 < ke) where
  -- at a column before `end` it sees the row before `end`, and of the rows below those before `end` in the panel's columns
  pub deferred-alike : (a b : Mat) (end : ℕ) (l q : Row) (j : ℕ) → ke ≤ end → j < end
      → ((c : ℕ) → c < end → l c ≡ q c) → ((c k : ℕ) → ke ≤ c → c < end → k < ke → a c k ≡ b c k)
      → row_deferred D kb ke a end l j ≡ row_deferred D kb ke b end q j
  unfolding row_deferred
  deferred-alike a b end l q j h e f g =
      rw (f j e) (ranged ke end j
      (λ x y t. rw (t, acc-alike D kb ke pair l q (a j) (b j) (λ c z. f c (omega arith)) (λ k z. g j k x y z)))
      (λ t. rw t))

  pub deferred-cut : (a : Mat) (end : ℕ) (l : Row) → ke ≤ end → row_deferred D kb ke a end (row_of end l) ≡ row_of end (row_deferred D kb ke a end l)
  deferred-cut a end l h =
      is_row end (row_deferred D kb ke a end l) (row_deferred D kb ke a end (row_of end l))
      (λ j e. deferred-alike a a end (row_of end l) l j h e (λ c z. row_at end l c z) (λ c k x y z. refl))
      (λ j e. deferred-past D kb ke a end (row_of end l) j e ∙ row-past end l j e)

-- ---- the panel whole

module _ (p : Panel) (w : Inside p.ke p.diagonals.blocks p.partners) where
  -- the steps of a row, before the later-panel rule
  abbrev stepped : Row → Row
  stepped r = row_after_steps p.diagonals p.partners p.mult p.ke (p.ke - p.kb) p.kb r

  pub panel-cut : (end : ℕ) (r : Row) → p.ke ≤ end → row_after_panel p end (row_of end r) ≡ row_of end (row_after_panel p end r)
  unfolding row_after_panel
  panel-cut end r h =
      ap (λ (l : Row). row_deferred p.diagonals p.kb p.ke p.below end l)
      (steps-cut p.diagonals p.partners p.mult p.ke w (p.ke - p.kb) p.kb end r h)
      ∙ deferred-cut p.diagonals p.kb p.ke w.pair p.below end (stepped r) h

  -- columns past the panel and from `end` on stay
  pub panel-past : (end : ℕ) (r : Row) (j : ℕ) → p.ke ≤ j → end ≤ j → row_after_panel p end r j ≡ r j
  unfolding row_after_panel
  panel-past end r j h l =
      deferred-past p.diagonals p.kb p.ke p.below end (stepped r) j l
      ∙ steps-past p.diagonals p.partners p.mult p.ke w (p.ke - p.kb) p.kb r j h
