-- From the entry checks and the copied input to the loop over panels. Assumes nothing.
use mathlib.Core.Path.{◌≡◌, sym, ◌∙◌, ap}
use mathlib.Core.Bool.{true, not, ◌&&◌}
use mathlib.Core.List.{List}
use Prim.Native.Nat.{ℕ, ◌+◌, ◌*◌, ◌≤◌, min, max}
use native.Mathlib.Omega.{arith}
use native.Mathlib.Nat.{mul-le-mul_right, mul-le-mul_left}
use borrow.Author.Tests.{leb-true}
use lib.Dec.{leb}
use lib.ListN.{length, replicate, length-replicate}
use lib.Ieee.{Float, lt}
use Rattle.model.specs.Sizes.{most_columns, most_rounds}
use Rattle.model.specs.Scalar.{zero_f, is_finite}
use Rattle.model.specs.Matrix.{view, naturals}
use Rattle.model.specs.Step.{pivots_of, recorded_in}
use Rattle.model.specs.Head.{State}
use Rattle.model.specs.Factor.{Buffers, lent_in, work_length, mode_check, entry_check, pivoting_of, start}
use Rattle.model.specs.declared.LentBuffers.{LentBuffers}
use Rattle.model.specs.declared.PivotRecord.{PivotRecord}
use Rattle.model.specs.Answer.{refuse_if}
use Rattle.model.specs.declared.Settings.{Settings}
use Rattle.model.specs.declared.Mode.{Mode}
use Rattle.model.specs.declared.Pivoting.{Pivoting}
use Rattle.model.specs.declared.Mode.TheVariants.{Fail, Lift}
use Rattle.model.specs.declared.Refusal.TheVariants.{Floor, Limit}
use Rattle.std.specs.Prelude.{Ok}
use Rattle.model.proofs.Cases.{and_right}
use Rattle.model.proofs.Entry.{second-sound, not-refused, passed}
use Rattle.model.proofs.Recorded.{none-recorded}
use Rattle.whole.specs.Whole.{WholeRun, whole_panels_of}
use Rattle.buffers.specs.Buffers.{begun_of}
use Rattle.model.proofs.Stores.{naturals-zeros}
use Rattle.buffers.proofs.Buffers.{begun-start}
use Rattle.step.specs.Terms.{LimitPre}
use Rattle.bunch_kaufman.specs.Terms.{NotedTo}
use Rattle.panels.specs.Turn.{between}
use Rattle.panels.specs.Run.{run_of, RunPre, TurnHolds}
use Rattle.bunch_kaufman.specs.Answers.{Ran}
use Rattle.factor.specs.Run.{Eliminated}

pub copy-pre : (c : Settings) (input : List Float) (b : Buffers) → entry_check c input b ≡ Ok tt → length b.panel ≡ length input
copy-pre c input b e = let w = passed c input b e in w.lengths.panel ∙ sym w.lengths.input

-- ---- what the loop asks

limit-pre : (mode : Mode) (limit : ℕ) → mode_check mode limit ≡ Ok tt → LimitPre mode limit
unfolding mode_check
limit-pre Fail limit e = tt
limit-pre (Lift floor) limit e =
    let few = leb 1 limit && leb limit most_rounds in
    let both : few ≡ true = not-refused few Limit (second-sound (refuse_if (not (is_finite floor && lt zero_f floor)) Floor) (refuse_if (not few) Limit) e) in
    leb-true limit most_rounds (and_right (leb 1 limit) (leb limit most_rounds) both)

work-less : (nrow w nb : ℕ) → w ≤ nb → work_length nrow w ≤ work_length nrow nb
work-less nrow w nb h =
    let a : 3 * nrow * (w + 1) ≤ 3 * nrow * (nb + 1) = mul-le-mul_left (3 * nrow) (omega arith) in
    let b : w * w ≤ w * nb = mul-le-mul_left w h in
    let c : w * nb ≤ nb * nb = mul-le-mul_right nb h in
    omega arith

pub run-pre : (c : Settings) (input : List Float) (b : Buffers) (w len len_w : ℕ) → entry_check c input b ≡ Ok tt
    → w ≡ min c.nb (max c.ncol 1) → len ≡ length b.panel → len_w ≡ length b.work
    → RunPre (record { ncol = c.ncol; nrow = c.nrow; nb = w; mode = c.mode; limit = c.limit }) len len_w
run-pre c input b w len len_w e h l m =
    let p = passed c input b e in
    let some = p.some in
    let narrow = p.narrow in
    record {
      panel = l ∙ p.lengths.panel;
      head = p.head;
      few_columns = p.few_columns;
      few_rows = p.few_rows;
      some = omega arith;
      narrow = omega arith;
      rounds = limit-pre c.mode c.limit p.mode;
      work = omega (arith, work-less c.nrow w c.nb (omega arith), p.lengths.work);
    }

pub holds-pre : (c : Settings) (input : List Float) (x : LentBuffers) (r : PivotRecord) → entry_check c input (lent_in x) ≡ Ok tt
    → length r.d.now ≡ length x.d.now → length r.sub.now ≡ length x.sub.now → length r.blocks.now ≡ length x.blocks.now
    → r.partners.now ≡ replicate most_columns 0 → length r.lifts.now ≡ length x.lifts.now → length r.amounts.now ≡ length x.amounts.now
    → length r.tests.now ≡ length x.tests.now → length r.order.now ≡ length x.order.now → TurnHolds c.nrow c.ncol r
holds-pre c input x r e e1 e2 e3 e4 e5 e6 e7 e8 =
    let p = passed c input (lent_in x) e in
    record {
      d = e1 ∙ p.lengths.d;
      sub = e2 ∙ p.lengths.sub;
      blocks = e3 ∙ p.lengths.blocks;
      partners = ap length e4 ∙ length-replicate {A = ℕ} most_columns 0;
      lifts = e5 ∙ p.lengths.lifts;
      amounts = e6 ∙ p.lengths.amounts;
      tests = e7 ∙ p.lengths.tests;
      order = e8 ∙ p.lengths.order;
    }

-- the run with the width that is used, from the start
pub run_is : (how : Pivoting) (nrow ncol w v : ℕ) (r : WholeRun) (s t : State) → w ≡ v → s ≡ t
    → r ≡ whole_panels_of how nrow ncol w ncol 0 s → r ≡ whole_panels_of how nrow ncol v ncol 0 t
run_is how nrow ncol w v r s t e f h =
    h ∙ ap (λ (x : ℕ). whole_panels_of how nrow ncol x ncol 0 s) e ∙ ap (λ (x : State). whole_panels_of how nrow ncol v ncol 0 x) f

-- ---- before the first panel

-- nothing is noted yet
pub noted-none : (n : ℕ) (d sub : List Float) (blocks partners lifts : List ℕ) (amounts : List Float) (tests order : List ℕ)
    → blocks ≡ replicate n 0 → partners ≡ replicate most_columns 0 → NotedTo 0 1 0 (pivots_of d sub blocks partners lifts amounts tests order)
noted-none n d sub blocks partners lifts amounts tests order e f = record {
  few = omega arith;
  pair = λ c h. absurd (omega (arith, ap (λ (g : ℕ → ℕ). g c) (ap naturals e ∙ naturals-zeros n)));
  partner = λ c. omega (arith, ap (λ (g : ℕ → ℕ). g c) (ap naturals f ∙ naturals-zeros most_columns));
  recorded = rw (e, f, naturals-zeros n, naturals-zeros most_columns) (none-recorded (λ i. 0) (λ i. 0));
}

-- the buffers show the start: x as they were lent, y as they begin
pub start_is : (c : Settings) (input : List Float) (x y : LentBuffers) (partners : List ℕ) → entry_check c input (lent_in x) ≡ Ok tt
    → lent_in y ≡ begun_of input (lent_in x) → partners ≡ replicate most_columns 0
    → between c.nrow y.panel.now (pivots_of y.d.now y.sub.now y.blocks.now partners y.lifts.now y.amounts.now y.tests.now y.order.now) 0
    ≡ start c.ncol (view c.nrow input)
start_is c input x y partners e w p =
    let q = passed c input (lent_in x) e in
    begun-start input (lent_in x) (lent_in y) partners c.nrow c.ncol w q.lengths.d q.lengths.sub q.lengths.amounts
    (ap naturals p ∙ naturals-zeros most_columns)

-- ---- after the last panel

-- what the loop over panels leaves in the record R is what the lists that it was lent show
pub eliminated-is : (c : Settings) (input : List Float) (r : Ran) (b : Buffers) (R : PivotRecord)
    → run_of r (between c.nrow b.panel (recorded_in R))
    ≡ whole_panels_of (pivoting_of c) c.nrow c.ncol (min c.nb (max c.ncol 1)) c.ncol 0 (start c.ncol (view c.nrow input))
    → b.d ≡ R.d.now → b.sub ≡ R.sub.now → b.blocks ≡ R.blocks.now → b.lifts ≡ R.lifts.now → b.amounts ≡ R.amounts.now → b.tests ≡ R.tests.now
    → b.order ≡ R.order.now → Eliminated c input r b
eliminated-is c input r b R h e1 e2 e3 e4 e5 e6 e7 = record { partners = R.partners.now; run = rw (e1, e2, e3, e4, e5, e6, e7) h }
