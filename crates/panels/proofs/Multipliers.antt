-- The multipliers that stand in the working buffer before a panel's steps are read by nobody: the rows below the panel read those alone that its own steps
-- kept. A reader may rely on `turn-any`: a panel's turn from two states that differ in the multipliers alone ends alike. Assumes nothing.
use mathlib.Core.Path.{◌≡◌, refl, ◌∙◌, ap, fun_ext}
use mathlib.Core.Bool.{Bool, true, false}
use Prim.Native.Nat.{ℕ, zero, suc, ◌+◌, ◌-◌, ◌≤◌, ◌<◌}
use native.Mathlib.Omega.{arith}
use borrow.Author.Tests.{lt-ltb, le-leb, eq-eqb, ne_eqb, ltb-true, ltb-false, eqb-true}
use lib.Dec.{ltb}
use lib.Ieee.{Float}
use Rattle.model.specs.Matrix.{Row, Mat, put, with_column, exchanged}
use Rattle.model.specs.Choice.{with_row, choose_of}
use Rattle.model.specs.Step.{Diagonals, Pivots, begins, block_at, past_of, step_at, arrived, row_after_step, row_stepped, row_after_steps}
use Rattle.model.specs.Head.{settled_one, settled_two, kept_one, kept_two, after_one, after_two}
use Rattle.model.specs.Head.{State, Tried, try_by, try_of, last_of, noted, Progress, going, after, panel_of, blank}
use Rattle.model.specs.declared.Block.{Block}
use Rattle.model.specs.declared.Diagonal.TheVariants.{One, Two}
use Rattle.model.specs.declared.Mode.{Mode}
use Rattle.model.specs.declared.Pivoting.{Pivoting}
use Rattle.model.specs.declared.Mode.TheVariants.{Fail, Lift}
use Rattle.model.specs.declared.Choice.{Choice}
use Rattle.model.specs.declared.Choice.TheVariants as choice
use Rattle.model.specs.declared.Chosen.{Chosen}
use Rattle.model.specs.declared.PivotTest.TheVariants as by
use Rattle.model.specs.declared.OneSettled.{OneSettled}
use Rattle.model.specs.declared.TwoSettled.{TwoSettled}
use Rattle.model.specs.declared.Unfit.{Unfit}
use Rattle.model.specs.declared.Unfit.TheVariants.{Low, OutOfRounds}
use Rattle.std.specs.Prelude.{Option, Some, None, Result, Ok, Err}
use Rattle.model.proofs.Cases.{test, cmp}
use Rattle.model.proofs.Recorded.{last-from}
use Rattle.whole.specs.Whole.{below, whole_closed, deferred_rows, whole_passed}
use Rattle.tail.proofs.From.{step_same}
use Rattle.model.proofs.Past.{past-above}
use Rattle.panels.specs.Turn.{onward, turn_of}

-- ---- what a row below reads

-- m and n agree in the rows past the pivot at c, in its column or its two columns; f holds the block bytes
record Same (ke : ℕ) (f : ℕ → ℕ) (m n : Mat) (c : ℕ) : Type 0 where
  own : (j : ℕ) → last_of c (begins f c) < j → j < ke → m j c ≡ n j c
  next : begins f c ≡ true → (j : ℕ) → c + 1 < j → j < ke → m j (c + 1) ≡ n j (c + 1)

-- at each column from kb up to k
abbrev Kept : ℕ → ℕ → ℕ → (ℕ → ℕ) → Mat → Mat → Type 0
Kept kb ke k f m n = (c : ℕ) → kb ≤ c → c < k → Same ke f m n c

module _ (D : Diagonals) (q : ℕ → ℕ) (m n : Mat) (ke : ℕ) where
  step-at-same : (k : ℕ) → Same ke D.blocks m n k → row_after_step ke (step_at D q m k) ≡ row_after_step ke (step_at D q n k)
  unfolding step_at last_of
  step-at-same k s =
      test (begins D.blocks k)
      (λ t. rw t (step_same k (q k) ke (λ j. m j k) (λ j. m j (k + 1)) (λ j. n j k) (λ j. n j (k + 1)) (Two (block_at D.d D.sub k))
      (λ j h l. s.own j (rw t h) l) (λ j h l. s.next t j h l)))
      (λ t. rw t (step_same k (q k) ke (λ j. m j k) (λ j. m j k) (λ j. n j k) (λ j. n j k) (One (D.d k))
      (λ j h l. s.own j (rw t h) l) (λ j h l. s.own j (rw t h) l)))

  stepped_same : (k : ℕ) (r : Row) → Same ke D.blocks m n k → row_stepped D q m ke k r ≡ row_stepped D q n ke k r
  unfolding row_stepped
  stepped_same k r s = ap (λ (f : Row → Row). f (arrived D.blocks q k r)) (step-at-same k s)

  rows_same : (kb : ℕ) → Kept kb ke ke D.blocks m n → (l k : ℕ) (r : Row) → kb ≤ k → row_after_steps D q m ke l k r ≡ row_after_steps D q n ke l k r
  unfolding row_after_steps
  rows_same kb s zero k r h = refl
  rows_same kb s (suc l) k r h =
      test (ltb k ke)
      (λ t. rw t (ap (λ (x : Row). row_after_steps D q m ke l (past_of D.blocks k) x) (stepped_same k r (s k h (ltb-true k ke t)))
      ∙ rows_same kb s l (past_of D.blocks k) (row_stepped D q n ke k r) (omega (arith, past-above D.blocks k))))
      (λ t. rw t)

-- ---- what a step keeps

column-later : (m n : Mat) (k lo hi : ℕ) (f : Row) (j c : ℕ) → m j c ≡ n j c → with_column m k lo hi f j c ≡ with_column n k lo hi f j c
unfolding with_column
column-later m n k lo hi f j c e = rw e

column-own : (m n : Mat) (k lo hi : ℕ) (f : Row) (j : ℕ) → lo ≤ j → j < hi → with_column m k lo hi f j k ≡ with_column n k lo hi f j k
unfolding with_column
column-own m n k lo hi f j h l = rw (eq-eqb k k refl, le-leb lo j h, lt-ltb j hi l)

-- what agrees before it agrees after it
same-later : (ke : ℕ) (f g : ℕ → ℕ) (m n x y : Mat) (c : ℕ) → g c ≡ f c → ((j d : ℕ) → m j d ≡ n j d → x j d ≡ y j d)
    → Same ke f m n c → Same ke g x y c
same-later ke f g m n x y c e keep s = record {
  own = λ j h l. keep j c (s.own j (rw e at h) l);
  next = λ b j h l. keep j (c + 1) (s.next (rw e at b) j h l);
}

-- its own columns agree, whatever stood there before; g holds the bytes that it noted
module _ (ke k : ℕ) (g : ℕ → ℕ) (m n a : Mat) where
  one-own : (d : Float) → g k ≡ 0 → Same ke g (kept_one ke k d a m) (kept_one ke k d a n) k
  unfolding kept_one last_of
  one-own d e = record {
    own = λ j h l. let past : k < j = rw e at h in column-own m n k (k + 1) ke _ j (omega arith) l;
    next = λ b j h l. absurd (omega (arith, eqb-true (g k) 1 b));
  }

  two-own : (b : Block) → g k ≡ 1 → Same ke g (kept_two ke k b a m) (kept_two ke k b a n) k
  unfolding kept_two last_of
  two-own b e = record {
    own = λ j h l. let past : k + 1 < j = rw e at h in column-later _ _ (k + 1) (k + 2) ke _ j k (column-own m n k (k + 2) ke _ j (omega arith) l);
    next = λ t j h l. column-own _ _ (k + 1) (k + 2) ke _ j (omega arith) l;
  }

  two-next : (b : Block) → g (k + 1) ≡ 0 → Same ke g (kept_two ke k b a m) (kept_two ke k b a n) (k + 1)
  unfolding kept_two last_of
  two-next b e = record {
    own = λ j h l. let past : k + 1 < j = rw e at h in column-own _ _ (k + 1) (k + 2) ke _ j (omega arith) l;
    next = λ t j h l. absurd (omega (arith, eqb-true (g (k + 1)) 1 t));
  }

-- with the columns before it
module _ (kb ke k : ℕ) (f : ℕ → ℕ) (m n a : Mat) (kept : Kept kb ke k f m n) where
  kept-one : (d : Float) → Kept kb ke (k + 1) (put (put f k 0) k 0) (kept_one ke k d a m) (kept_one ke k d a n)
  unfolding kept_one put
  kept-one d c h l = cmp c k
      (λ b. same-later ke f _ m n _ _ c (rw (ne_eqb c k (λ e. omega arith))) (λ j q e. column-later m n k (k + 1) ke _ j q e) (kept c h b))
      (λ e. rw e (one-own ke k _ m n a d (rw (eq-eqb k k refl))))
      (λ g. absurd (omega arith))

  kept-two : (b : Block) → Kept kb ke (k + 1 + 1) (put (put f (k + 1) 0) k 1) (kept_two ke k b a m) (kept_two ke k b a n)
  unfolding kept_two put
  kept-two b c h l = cmp c k
      (λ g. same-later ke f _ m n _ _ c (rw (ne_eqb c k (λ e. omega arith), ne_eqb c (k + 1) (λ e. omega arith)))
      (λ j q e. column-later _ _ (k + 1) (k + 2) ke _ j q (column-later m n k (k + 2) ke _ j q e)) (kept c h g))
      (λ e. rw e (two-own ke k _ m n a b (rw (eq-eqb k k refl))))
      (λ g. let e : c ≡ k + 1 = omega arith in
      rw e (two-next ke k _ m n a b (rw (ne_eqb (k + 1) k (λ q. omega arith), eq-eqb (k + 1) (k + 1) refl))))

-- ---- a panel's steps

module _ (nrow ncol kb ke : ℕ) where
  abbrev at : Mat → Mat → Pivots → ℕ → State
  at a m p r = record { a = a; mult = m; pivots = p; rounds = r }

  onward-same : (k : ℕ) (a m n : Mat) (p : Pivots) (r : ℕ) → Kept kb ke ke p.diagonals.blocks m n
      → onward nrow ncol kb ke (going k (at a m p r)) ≡ onward nrow ncol kb ke (going k (at a n p r))
  unfolding whole_passed whole_closed
  onward-same k a m n p r s =
      ap (λ (g : Row → Row). going ke (at (deferred_rows nrow ncol p.diagonals kb ke (below ke nrow g a)) blank p r))
      (fun_ext λ x. rows_same p.diagonals p.partners m n ke kb s (ke - kb) kb x (omega arith))

  -- one step, where `more` says the same of those that follow
  module _ (k : ℕ) (p : Pivots) (r : ℕ) (m n : Mat) (kept : Kept kb ke k p.diagonals.blocks m n) (f : ℕ → State → Progress)
      (more : (b : Bool) (a x y : Mat) (q : Pivots) (z : ℕ) → Kept kb ke (last_of k b + 1) q.diagonals.blocks x y
      → onward nrow ncol kb ke (f (last_of k b + 1) (at a x q z)) ≡ onward nrow ncol kb ke (f (last_of k b + 1) (at a y q z))) where
    -- the steps t and u, from m and from n, end alike
    abbrev Alike : Mat → Tried → Tried → Type 0
    Alike s t u = onward nrow ncol kb ke (after t (at s m p r) k f) ≡ onward nrow ncol kb ke (after u (at s n p r) k f)

    one_alike : (s a : Mat) (c : Chosen) (d : Option OneSettled) → Alike s (after_one ke a m k c d) (after_one ke a n k c d)
    unfolding noted last_of
    one_alike s a c None = refl
    one_alike s a c (Some o) = more false _ _ _ _ _ (kept-one kb ke k p.diagonals.blocks m n (exchanged k c.kp.0 ke a) kept o.d)

    two-alike : (s a : Mat) (c : Chosen) (d : Result TwoSettled Unfit) → Alike s (after_two ke a m k c d) (after_two ke a n k c d)
    unfolding noted last_of
    two-alike s a c (Err Low) = refl
    two-alike s a c (Err OutOfRounds) = refl
    two-alike s a c (Ok o) = more true _ _ _ _ _ (kept-two kb ke k p.diagonals.blocks m n (exchanged (k + 1) c.kp.0 ke a) kept o.block)

    by_alike : (a : Mat) (mode : Mode) (limit : ℕ) (c : Choice) → Alike a (try_by ke a m mode limit k c) (try_by ke a n mode limit k c)
    by_alike a Fail limit choice.ZeroColumn = refl
    by_alike a (Lift floor) limit choice.ZeroColumn = one_alike a a (with_row by.ZeroColumn k (record { 0 = k })) (settled_one (Lift floor) (a k k))
    by_alike a Fail limit (choice.Single c) = one_alike a a c (settled_one Fail (a c.kp.0 c.kp.0))
    by_alike a (Lift floor) limit (choice.Single c) = one_alike a a c (settled_one (Lift floor) (a c.kp.0 c.kp.0))
    by_alike a Fail limit (choice.Block c) = two-alike a (exchanged k c.p.0 ke a) c (settled_two Fail limit _)
    by_alike a (Lift floor) limit (choice.Block c) = two-alike a (exchanged k c.p.0 ke a) c (settled_two (Lift floor) limit _)

  panel-any : (how : Pivoting) (l k : ℕ) (a m n : Mat) (p : Pivots) (r : ℕ) → ke - k ≤ l → Kept kb ke k p.diagonals.blocks m n
      → onward nrow ncol kb ke (panel_of ke how l k (at a m p r)) ≡ onward nrow ncol kb ke (panel_of ke how l k (at a n p r))
  unfolding panel_of try_of
  panel-any how zero k a m n p r h kept = onward-same k a m n p r (λ c b e. kept c b (omega arith))
  panel-any how (suc l) k a m n p r h kept =
      test (ltb k ke)
      (λ t. rw t (by_alike k p r m n kept (panel_of ke how l)
      (λ b s x y q z w. panel-any how l (last_of k b + 1) s x y q z (omega (arith, last-from k b)) w) a how.mode how.limit (choose_of a k ke)))
      (λ t. rw t (onward-same k a m n p r (λ c b e. kept c b (omega (arith, ltb-false k ke t)))))

-- a panel's turn with any multipliers m in place of the state's
pub turn-any : (how : Pivoting) (nrow ncol kb ke : ℕ) (s : State) (m : Mat)
    → turn_of how nrow ncol kb ke s
    ≡ turn_of how nrow ncol kb ke (record { a = s.a; mult = m; pivots = s.pivots; rounds = s.rounds })
unfolding turn_of
turn-any how nrow ncol kb ke s m =
    panel-any nrow ncol kb ke how (ke - kb) kb s.a s.mult m s.pivots s.rounds (omega arith) (λ c h l. absurd (omega arith))
