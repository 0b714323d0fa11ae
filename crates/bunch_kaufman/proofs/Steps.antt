-- Laws of a panel's steps in turn: one taken off, the refusal, the end; what a turn of the loop asks and keeps; what is promised at the end.
-- Assumes nothing.
use Prim.Native.Nat.{ℕ, zero, suc, ◌+◌, ◌-◌, ◌*◌, ◌<◌, ◌≤◌}
use mathlib.Core.Path.{◌≡◌, refl, sym, ◌∙◌, ap, subst}
use mathlib.Core.Bool.{Bool}
use native.Mathlib.Omega.{arith}
use borrow.Author.Tests.{lt-ltb, le-ltb}
use lib.Dec.{ltb}
use Rattle.model.specs.Sizes.{most_columns, most_rounds}
use Rattle.model.specs.Matrix.{Mat}
use Rattle.model.specs.Step.{Pivots, SameRecord, is_block}
use Rattle.model.specs.Head.{State, Tried, refused_by, took, try_of, last_of, noted, Progress, going, after, panel_of}
use Rattle.model.specs.Kept.{Starts, Recorded}
use Rattle.model.specs.declared.Pivoting.{Pivoting}
use Rattle.model.specs.declared.Pivot.{Pivot}
use Rattle.model.specs.declared.Refusal.{Refusal}
use Rattle.model.proofs.Bounds.{GoodPivot}
use Rattle.model.proofs.Recorded.{last-from as last-ge, Reached, panel-reached, noted-recorded, noted-starts, end-starts}
use Rattle.model.proofs.Cases.{test}
use Rattle.whole.proofs.Steps.{Went, PivotsInside, panel-inside}
use Rattle.step.specs.Answers.{Taken, tried}
use Rattle.step.specs.Terms.{PivotIn, TakenIn}
use Rattle.bunch_kaufman.specs.Answers.{progress}
use Rattle.bunch_kaufman.specs.Terms.{NotedTo, PanelNoted, NotesPre}
use Rattle.notes.specs.Notes.{NotePre}
use Rattle.model.specs.declared.PivotRecord.{PivotRecord}
use Rattle.std.specs.Prelude.{Ok, Err}

-- ---- steps in turn

module _ (ke : ℕ) (how : Pivoting) where
  after-alike : (t : Tried) (s : State) (k : ℕ) (f g : ℕ → State → Progress)
      → ((b : Bool) (u : State) → f (last_of k b + 1) u ≡ g (last_of k b + 1) u) → after t s k f ≡ after t s k g
  after-alike (refused_by r) s k f g h = refl
  after-alike (took v a m) s k f g h = h (is_block v.diagonal) _

  -- more steps than columns are left change nothing
  panel-fuel : (n m k : ℕ) (s : State) → ke - k ≤ n → ke - k ≤ m → panel_of ke how n k s ≡ panel_of ke how m k s
  unfolding panel_of
  panel-fuel zero zero k s h l = refl
  panel-fuel zero (suc m) k s h l = rw (le-ltb k ke (omega arith))
  panel-fuel (suc n) zero k s h l = rw (le-ltb k ke (omega arith))
  panel-fuel (suc n) (suc m) k s h l =
      test (ltb k ke)
      (λ p. rw p (after-alike (try_of ke s.a s.mult how k) s k (panel_of ke how n) (panel_of ke how m)
      (λ b u. panel-fuel n m (last_of k b + 1) u (omega (arith, last-ge k b)) (omega (arith, last-ge k b)))))
      (λ p. rw p)

  -- one step taken off
  panel-open : (k : ℕ) (s : State) → k < ke
      → panel_of ke how (ke - k) k s ≡ after (try_of ke s.a s.mult how k) s k (panel_of ke how (ke - (k + 1)))
  unfolding panel_of
  panel-open k s h =
      let q : ke - k ≡ suc (ke - (k + 1)) = omega arith in
      ap (λ (n : ℕ). panel_of ke how n k s) q ∙ rw (lt-ltb k ke h) refl

  -- a pivot is taken: T answers for the step, e is the pivot's last column, P its notes
  pub panel-step : (s : State) (k e : ℕ) (R : Progress) (T : Taken) (v : Pivot) (a m : Mat) (P : Pivots)
      → panel_of ke how (ke - k) k s ≡ R → k < ke → tried T a m ≡ try_of ke s.a s.mult how k → T ≡ Ok v → e ≡ last_of k (is_block v.diagonal)
      → P ≡ noted s.pivots k e v
      → panel_of ke how (ke - (e + 1)) (e + 1) (record { a = a; mult = m; pivots = P; rounds = s.rounds + v.rounds }) ≡ R
  unfolding tried
  panel-step s k e R T v a m P r h t z l n =
      rw (n, l)
      (panel-fuel (ke - (last_of k (is_block v.diagonal) + 1)) (ke - (k + 1)) (last_of k (is_block v.diagonal) + 1) _ (omega arith) (omega (arith, last-ge k (is_block v.diagonal)))
      ∙ sym (ap (λ (o : Tried). after o s k (panel_of ke how (ke - (k + 1)))) (sym t ∙ ap (λ (u : Taken). tried u a m) z))
      ∙ sym (panel-open k s h) ∙ r)

  -- the step refuses, and its refusal is the panel's
  pub panel-stop : (s : State) (k : ℕ) (R : Progress) (T : Taken) (r : Refusal) (a m : Mat) (f : ℕ → State)
      → panel_of ke how (ke - k) k s ≡ R → k < ke → tried T a m ≡ try_of ke s.a s.mult how k → T ≡ Err r → progress (Err r) ke f ≡ R
  unfolding tried progress
  panel-stop s k R T r a m f e h t z =
      sym (ap (λ (o : Tried). after o s k (panel_of ke how (ke - (k + 1)))) (sym t ∙ ap (λ (u : Taken). tried u a m) z))
      ∙ sym (panel-open k s h) ∙ e

  -- the columns are done
  pub panel-end : (f : ℕ → State) (k n : ℕ) (R : Progress) → panel_of ke how (ke - k) k (f n) ≡ R → ke ≤ k → k ≤ ke → progress (Ok n) ke f ≡ R
  unfolding panel_of progress
  panel-end f k n R r h l =
      let q : ke - k ≡ 0 = omega arith in
      let z : ke ≡ k = omega arith in
      ap (λ (j : ℕ). going j (f n)) z ∙ rw q at r

-- ---- what a turn of the loop asks and keeps

took_in : (ke k : ℕ) (T : Taken) (v : Pivot) → TakenIn ke k T → T ≡ Ok v → PivotIn ke k v
took_in ke k T v g e = subst (λ (u : Taken). TakenIn ke k u) e g

pub note-pre : (ke k e : ℕ) (T : Taken) (v : Pivot) (x y : PivotRecord)
    → TakenIn ke k T → T ≡ Ok v → e ≡ last_of k (is_block v.diagonal) → ke ≤ most_columns → NotesPre ke x → SameRecord x y
    → NotePre k e v.chosen.p.0 v.chosen.kp.0 y
note-pre ke k e T v x y g z l few h s =
    let w = took_in ke k T v g z in
    let m = last-ge k (is_block v.diagonal) in
    let a = w.last in
    let b = w.row in
    let f = w.first in
    let order = s.order.count in
    record {
      from = omega arith;
      d = omega (arith, h.d, s.d.count);
      sub = omega (arith, h.sub, s.sub.count);
      blocks = omega (arith, h.blocks, s.blocks.count);
      partners = omega (arith, h.partners, s.partners.count);
      lifts = omega (arith, h.lifts, s.lifts.count);
      amounts = omega (arith, h.amounts, s.amounts.count);
      tests = omega (arith, h.tests, s.tests.count);
      order = omega (arith, h.order);
      row = omega (arith, h.order);
      first = omega (arith, h.order);
      first_head = omega arith;
      row_head = omega arith;
    }

pub next-from : (kb k e : ℕ) (b : Bool) → e ≡ last_of k b → kb ≤ k → kb ≤ e + 1
next-from kb k e b l h = omega (arith, last-ge k b)

pub next-in : (ke k e : ℕ) (T : Taken) (v : Pivot) → TakenIn ke k T → T ≡ Ok v → e ≡ last_of k (is_block v.diagonal) → e + 1 ≤ ke
next-in ke k e T v g z l = omega (arith, (took_in ke k T v g z).last)

pub next-less : (ke k e : ℕ) (b : Bool) → e ≡ last_of k b → k < ke → ke - (e + 1) < ke - k
next-less ke k e b l h = omega (arith, last-ge k b)

pub next-few : (ke k e r : ℕ) (T : Taken) (v : Pivot) → TakenIn ke k T → T ≡ Ok v → e ≡ last_of k (is_block v.diagonal) → r ≤ most_rounds * k
    → r + v.rounds ≤ most_rounds * (e + 1)
next-few ke k e r T v g z l h = omega (arith, (took_in ke k T v g z).few, last-ge k (is_block v.diagonal))

-- ---- what is promised at the end

-- at column k of the panel that begins at kb
record From (kb k : ℕ) (p : Pivots) : Type 0 where
  at : kb ≤ k
  recorded : Recorded k p.diagonals.blocks p.partners
  start : Starts p.diagonals.blocks kb

from_step : (how : Pivoting) (kb ke k : ℕ) (p : Pivots) (v : Pivot) → GoodPivot how ke k v → From kb k p
    → From kb (last_of k (is_block v.diagonal) + 1) (noted p k (last_of k (is_block v.diagonal)) v)
from_step how kb ke k p v g w = record {
  at = omega (arith, w.at, last-ge k (is_block v.diagonal));
  recorded = noted-recorded how ke k p v g w.recorded;
  start = noted-starts kb k (last_of k (is_block v.diagonal)) p v w.at (last-ge k (is_block v.diagonal)) w.start;
}

-- the notes of the state u after a panel's steps from s
pub notes-end : (ke : ℕ) (how : Pivoting) (kb k before : ℕ) (s u : State) → NotedTo kb ke before s.pivots → kb ≤ ke
    → panel_of ke how (ke - k) k u ≡ panel_of ke how (ke - kb) kb s → ke ≤ k → k ≤ ke → u.rounds ≤ most_rounds * k
    → PanelNoted kb ke u.rounds u.pivots
unfolding panel_of
notes-end ke how kb k before s u h a e l m r =
    let q : ke - k ≡ 0 = omega arith in
    let f = sym (rw q at e) in
    let w = subst (Went (λ t. PivotsInside ke t.pivots)) f
    (panel-inside ke how (ke - kb) kb s (record { partner = h.partner; pair = h.pair })) in
    let v = subst (Reached (From kb) ke) f (panel-reached ke how (From kb) (from_step how kb ke) (ke - kb) kb s a (omega arith)
    (record { at = omega arith; recorded = h.recorded; start = end-starts kb _ _ h.recorded })) in
    record { noted = record { few = omega arith; pair = w.pair; partner = w.partner; recorded = v.1.recorded }; start = v.1.start }
