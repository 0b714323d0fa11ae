-- A panel's steps in turn: the cut to the head goes through them; they keep the positions above the diagonal and the rows below the panel; and the partners
-- and blocks that they note stand inside it. Assumes nothing.
use Prim.Native.Nat.{ℕ, zero, suc, ◌+◌, ◌<◌, ◌≤◌}
use mathlib.Core.Path.{◌≡◌, refl, ◌∙◌, ap, subst}
use mathlib.Core.Logic.{◌⊎◌, ⊎_elim}
use mathlib.Core.Bool.{Bool, true, false}
use native.Mathlib.Omega.{arith}
use borrow.Author.Tests.{eqb-true, ltb-true}
use lib.Dec.{ltb, eqb}
use Rattle.model.specs.Matrix.{Mat, put, exchanged}
use Rattle.model.specs.Choice.{with_row, choose_of}
use Rattle.model.specs.Step.{Pivots, is_block, block_in}
use Rattle.model.specs.Head.{settled_one, settled_two, after_one, after_two, try_block, try_by, try_of}
use Rattle.model.specs.Head.{State, Tried, refused_by, took, last_of, byte_of, noted, Progress, stopped, going, after, panel_of}
use Rattle.model.specs.Factor.{start}
use Rattle.model.specs.declared.Mode.{Mode}
use Rattle.model.specs.declared.Pivoting.{Pivoting}
use Rattle.model.specs.declared.Mode.TheVariants.{Fail, Lift}
use Rattle.model.specs.declared.Pivot.{Pivot}
use Rattle.model.specs.declared.Choice.{Choice}
use Rattle.model.specs.declared.Choice.TheVariants as choice
use Rattle.model.specs.declared.Chosen.{Chosen}
use Rattle.model.specs.declared.PivotTest.TheVariants as by
use Rattle.model.specs.declared.OneSettled.{OneSettled}
use Rattle.model.specs.declared.TwoSettled.{TwoSettled}
use Rattle.model.specs.declared.Unfit.{Unfit}
use Rattle.model.specs.declared.Unfit.TheVariants.{Low, OutOfRounds}
use Rattle.std.specs.Prelude.{Option, Some, None, Result, Ok, Err}
use Rattle.model.proofs.Bounds.{GoodPivot, Good, try-good}
use Rattle.model.proofs.Cases.{test}
use Rattle.model.proofs.Exchanged.{exchanged-up, exchanged-past}
use Rattle.model.proofs.Recorded.{last_block}
use Rattle.whole.specs.Whole.{cut_state, cut_tried, cut_progress}
use Rattle.whole.proofs.Masked.{head_one-up, head_one-past, head_two-up, head_two-past}
use Rattle.whole.proofs.Tried.{try-masked}

-- the state after a pivot at k
abbrev pub stepped : State → ℕ → Pivot → Mat → Mat → State
stepped s k v a m = record { a = a; mult = m; pivots = noted s.pivots k (last_of k (is_block v.diagonal)) v; rounds = s.rounds + v.rounds }

-- ---- the cut goes through them

module _ (c : ℕ) (s : State) (k : ℕ) (f : ℕ → State → Progress) (h : (j : ℕ) (u : State) → f j (cut_state c u) ≡ cut_progress c (f j u)) where
  after-masked : (t : Tried) → after (cut_tried c t) (cut_state c s) k f ≡ cut_progress c (after t s k f)
  unfolding cut_state
  after-masked (refused_by r) = refl
  after-masked (took v a m) = h (last_of k (is_block v.diagonal) + 1) (stepped s k v a m)

  step-masked : (ke : ℕ) (how : Pivoting) → ke ≤ c → k < ke
      → after (try_of ke (cut_state c s).a (cut_state c s).mult how k) (cut_state c s) k f
      ≡ cut_progress c (after (try_of ke s.a s.mult how k) s k f)
  unfolding cut_state
  step-masked ke how hc hk =
      ap (λ (t : Tried). after t (cut_state c s) k f) (try-masked c ke s.a s.mult hc how k hk)
      ∙ after-masked (try_of ke s.a s.mult how k)

pub panel-masked : (c ke : ℕ) (how : Pivoting) (n k : ℕ) (s : State) → ke ≤ c
    → panel_of ke how n k (cut_state c s) ≡ cut_progress c (panel_of ke how n k s)
unfolding panel_of
panel-masked c ke how zero k s hc = refl
panel-masked c ke how (suc n) k s hc =
    test (ltb k ke)
    (λ t. rw t (step-masked c s k (panel_of ke how n) (λ j u. panel-masked c ke how n j u hc) ke how hc (ltb-true k ke t)))
    (λ t. rw t)

-- ---- what every step keeps, the panel keeps

-- of the state that a panel's steps reach
abbrev pub Went : (State → Type 0) → Progress → Type 0
Went P (stopped r) = Unit {0}
Went P (going k s) = P s

module _ (ke : ℕ) (how : Pivoting) (P : State → Type 0)
    (step : (s : State) (k : ℕ) (v : Pivot) (a m : Mat) → k < ke → try_of ke s.a s.mult how k ≡ took v a m → P s → P (stepped s k v a m)) where
  after-went : (s : State) (k : ℕ) (f : ℕ → State → Progress) → ((j : ℕ) (u : State) → P u → Went P (f j u)) → k < ke → P s
      → (t : Tried) → try_of ke s.a s.mult how k ≡ t → Went P (after t s k f)
  after-went s k f h hk p (refused_by r) e = tt
  after-went s k f h hk p (took v a m) e = h (last_of k (is_block v.diagonal) + 1) (stepped s k v a m) (step s k v a m hk e p)

  pub panel-went : (n k : ℕ) (s : State) → P s → Went P (panel_of ke how n k s)
  unfolding panel_of
  panel-went zero k s p = p
  panel-went (suc n) k s p =
      test (ltb k ke)
      (λ t. rw t (after-went s k (panel_of ke how n) (panel-went n) (ltb-true k ke t) p (try_of ke s.a s.mult how k) refl))
      (λ t. rw t p)

-- ---- the positions that no step of a panel touches

-- above the diagonal, or in a row from ke on
abbrev pub Untouched : ℕ → ℕ → ℕ → Type 0
Untouched ke i j = (i < j) ⊎ (ke ≤ i)

-- of a step on a
abbrev pub Keeps : ℕ → Mat → Tried → Type 0
Keeps ke a (refused_by r) = Unit {0}
Keeps ke a (took v b m) = (i j : ℕ) → Untouched ke i j → b i j ≡ a i j

module _ (ke : ℕ) (a m : Mat) (k : ℕ) (c : Chosen) where
  one-keeps : (s : Option OneSettled) → k < ke → Keeps ke a (after_one ke a m k c s)
  one-keeps None hk = tt
  one-keeps (Some s) hk = λ i j.
      ⊎_elim (λ h. head_one-up ke k s.d (exchanged k c.kp.0 ke a) i j h ∙ exchanged-up k c.kp.0 ke a i j h)
      (λ h. head_one-past ke k s.d (exchanged k c.kp.0 ke a) i j (omega arith) h ∙ exchanged-past k c.kp.0 ke a i j h)

  two-keeps : (s : Result TwoSettled Unfit) → Keeps ke a (after_two ke a m k c s)
  two-keeps (Err Low) = tt
  two-keeps (Err OutOfRounds) = tt
  two-keeps (Ok s) = λ i j.
      ⊎_elim (λ h. head_two-up ke k s.block (exchanged (k + 1) c.kp.0 ke a) i j h ∙ exchanged-up (k + 1) c.kp.0 ke a i j h)
      (λ h. head_two-past ke k s.block (exchanged (k + 1) c.kp.0 ke a) i j h ∙ exchanged-past (k + 1) c.kp.0 ke a i j h)

-- what keeps a matrix that was exchanged keeps the matrix
exchange-keeps : (ke k p : ℕ) (a : Mat) (t : Tried) → Keeps ke (exchanged k p ke a) t → Keeps ke a t
exchange-keeps ke k p a (refused_by r) w = tt
exchange-keeps ke k p a (took v b m) w = λ i j u.
    w i j u ∙ ⊎_elim (λ h. exchanged-up k p ke a i j h) (λ h. exchanged-past k p ke a i j h) u

module _ (ke : ℕ) (a m : Mat) where
  block-keeps : (mode : Mode) (limit k : ℕ) (c : Chosen) → Keeps ke a (try_block ke (exchanged k c.p.0 ke a) m mode limit k c)
  block-keeps mode limit k c =
      exchange-keeps ke k c.p.0 a (try_block ke (exchanged k c.p.0 ke a) m mode limit k c) (two-keeps ke (exchanged k c.p.0 ke a) m k c
      (settled_two mode limit (block_in (exchanged (k + 1) c.kp.0 ke (exchanged k c.p.0 ke a)) k)))

  by-keeps : (mode : Mode) (limit k : ℕ) (o : Choice) → k < ke → Keeps ke a (try_by ke a m mode limit k o)
  by-keeps Fail limit k choice.ZeroColumn hk = tt
  by-keeps (Lift floor) limit k choice.ZeroColumn hk =
      one-keeps ke a m k (with_row by.ZeroColumn k (record { 0 = k })) (settled_one (Lift floor) (a k k)) hk
  by-keeps Fail limit k (choice.Single c) hk = one-keeps ke a m k c (settled_one Fail (a c.kp.0 c.kp.0)) hk
  by-keeps (Lift floor) limit k (choice.Single c) hk = one-keeps ke a m k c (settled_one (Lift floor) (a c.kp.0 c.kp.0)) hk
  by-keeps Fail limit k (choice.Block c) hk = block-keeps Fail limit k c
  by-keeps (Lift floor) limit k (choice.Block c) hk = block-keeps (Lift floor) limit k c

  pub try-keeps : (how : Pivoting) (k : ℕ) → k < ke → Keeps ke a (try_of ke a m how k)
  unfolding try_of
  try-keeps how k hk = by-keeps how.mode how.limit k (choose_of a k ke) hk

-- t has kept what s had there
abbrev pub Kept : ℕ → State → State → Type 0
Kept ke s t = (i j : ℕ) → Untouched ke i j → t.a i j ≡ s.a i j

pub panel-keeps : (ke : ℕ) (how : Pivoting) (n k : ℕ) (s : State) → Went (Kept ke s) (panel_of ke how n k s)
panel-keeps ke how n k s =
    panel-went ke how (Kept ke s)
    (λ t k v a m hk e p i j u. subst (λ (o : Tried). Keeps ke t.a o) e (try-keeps ke t.a t.mult how k hk) i j u ∙ p i j u) n k s (λ i j u. refl)

-- ---- what is noted

-- every partner and every block stands before ke
pub record Inside (ke : ℕ) (blocks partners : ℕ → ℕ) : Type 0 where
  pub partner : (j : ℕ) → partners j < ke
  pub pair : (j : ℕ) → blocks j ≡ 1 → j + 1 < ke

-- of a record of pivots
abbrev pub PivotsInside : ℕ → Pivots → Type 0
PivotsInside ke p = Inside ke p.diagonals.blocks p.partners

pub inside-more : (ke kf : ℕ) (f q : ℕ → ℕ) → ke ≤ kf → Inside ke f q → Inside kf f q
inside-more ke kf f q h w = record { partner = λ j. omega (arith, w.partner j); pair = λ j e. omega (arith, w.pair j e) }

-- with nothing noted
pub start-inside : (ncol : ℕ) (a : Mat) → PivotsInside 1 (start ncol a).pivots
unfolding start
start-inside ncol a = record { partner = λ j. omega arith; pair = λ j e. let z : ◌≡◌ {A = ℕ} 0 1 = e in omega arith }

byte-block : (b : Bool) → byte_of b ≡ 1 → b ≡ true
byte-block true e = refl
byte-block false e = let z : ◌≡◌ {A = ℕ} 0 1 = e in let n : ⊥ = omega arith in absurd n

noted-inside : (how : Pivoting) (ke k : ℕ) (p : Pivots) (v : Pivot) → k < ke → GoodPivot how ke k v → PivotsInside ke p
    → PivotsInside ke (noted p k (last_of k (is_block v.diagonal)) v)
unfolding noted put
noted-inside how ke k p v h g w =
    record {
      partner = λ j. test (eqb j k) (λ t. rw t g.row)
          (λ t. rw t (test (eqb j (last_of k (is_block v.diagonal))) (λ u. rw u (omega (arith, g.own))) (λ u. rw u (w.partner j))));
      pair = λ j. test (eqb j k)
          (λ t. rw t (λ e. omega (arith, eqb-true j k t, last_block k (is_block v.diagonal) (byte-block (is_block v.diagonal) e), g.last)))
          (λ t. rw t (test (eqb j (last_of k (is_block v.diagonal)))
          (λ u. rw u (λ e. let z : ◌≡◌ {A = ℕ} 0 1 = e in omega arith))
          (λ u. rw u (w.pair j))));
    }

pub panel-inside : (ke : ℕ) (how : Pivoting) (n k : ℕ) (s : State) → PivotsInside ke s.pivots
    → Went (λ t. PivotsInside ke t.pivots) (panel_of ke how n k s)
panel-inside ke how n k s w =
    panel-went ke how (λ t. PivotsInside ke t.pivots)
    (λ t k v a m hk e p. noted-inside how ke k t.pivots v hk (subst (λ (o : Tried). Good how ke k o) e (try-good ke t.a t.mult how k hk)) p) n k s w
