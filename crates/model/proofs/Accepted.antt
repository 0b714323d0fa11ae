-- What an accepted call may be relied on for: its order is a permutation that leaves the tail in place; its block bytes are well formed, so that inertia and
-- update never answer 16 to them; both are what a walk from LAPACK makes; and its test numbers tell what `TestsTell` says. Assumes nothing.
use mathlib.Core.Path.{◌≡◌, refl, sym, ◌∙◌, ap, subst}
use mathlib.Core.List.{List}
use Prim.Native.Nat.{ℕ, zero, suc, ◌+◌, ◌-◌, ◌≤◌, ◌<◌, min, max}
use native.Mathlib.Omega.{arith}
use borrow.Author.Tests.{ltb-true, ltb-false}
use lib.Dec.{ltb}
use lib.ListN.{length}
use Rattle.std.specs.Prelude.{Ok, Err}
use Rattle.model.specs.Matrix.{Mat, view, head_of, naturals, swapped, tabulate}
use Rattle.model.specs.Step.{Pivots, is_block}
use Rattle.model.specs.Kept.{Recorded, Permutes}
use Rattle.model.specs.Panel.{Panel}
use Rattle.model.specs.Head as head
use Rattle.model.specs.Head.{State, last_of, noted, Progress, stopped, going, panel_of, Run, done, closed, passed, with_panel, continued, panels_of}
use Rattle.model.specs.Inertia.{check_bytes}
use Rattle.model.specs.Factor.{pivoting_of, Outcome, start, head_run_of, HeadAnswer, fails, stands, judged, judged_run, head_answer_of, entry_check, result_check}
use Rattle.model.specs.Factor.{after_head, after_check, factor_of}
use Rattle.model.specs.Answer.{Said, accepted, Check}
use Rattle.model.specs.Independence.{Call, PastEntry, outcome_of}
use Rattle.model.specs.Tests.{Told, TestsTell}
use Rattle.model.specs.declared.Mode.{Mode}
use Rattle.model.specs.declared.Pivoting.{Pivoting}
use Rattle.model.specs.declared.Pivot.{Pivot}
use Rattle.model.specs.declared.Report.{Report}
use Rattle.model.proofs.Tabulated.{length-tabulate_from, get_d_tabulate}
use Rattle.model.proofs.Cases.{test}
use Rattle.model.proofs.Bytes.{tabulated-bytes}
use Rattle.model.proofs.Exchanged.{swapped_same}
use Rattle.model.proofs.Walked.{Walked, none-walked, step-walked}
use Rattle.model.proofs.Order.{swapped-permutes, permutes-apart, permutes_inside, own-places}
use Rattle.model.proofs.Numbered.{refused-not}
use Rattle.model.proofs.Independence.{bytes-tabulate}
use Rattle.model.proofs.Entry.{Passed, passed as entry-passed, past-entry}
use Rattle.model.proofs.Bounds.{GoodPivot}
use Rattle.model.proofs.Recorded.{last-from, Reached, panel-reached, noted-recorded, none-recorded, step_puts}
use Rattle.model.proofs.Tests.{step-told, none-told, told-alike}

-- ---- the run keeps all four

-- at column k of a run over ncol columns
pub record Kept (mode : Mode) (ncol k : ℕ) (p : Pivots) : Type 0 where
  pub order : Permutes ncol p.notes.order
  pub recorded : Recorded k p.diagonals.blocks p.partners
  pub walked : Walked ncol k p.notes.order p.diagonals.blocks
  pub told : Told mode k p.diagonals.blocks p.notes.tests

-- after the pivot v at k
abbrev pub KeptPast : Mode → ℕ → ℕ → Pivots → Pivot → Type 0
KeptPast mode ncol k p v = let e = last_of k (is_block v.diagonal) in Kept mode ncol (e + 1) (noted p k e v)

-- the first exchange is with the pivot's own row, and so none
walked-noted : (how : Pivoting) (ncol ke k : ℕ) (p : Pivots) (v : Pivot) → ke ≤ ncol → GoodPivot how ke k v
    → Walked ncol k p.notes.order p.diagonals.blocks
    → let e = last_of k (is_block v.diagonal) in
    Walked ncol (e + 1) (noted p k e v).notes.order (noted p k e v).diagonals.blocks
unfolding noted step_puts
walked-noted how ncol ke k p v h g w =
    let none : swapped p.notes.order k v.chosen.p.0 ≡ p.notes.order = sym (swapped_same p.notes.order k v.chosen.p.0 (sym g.own)) in
    rw none (step-walked ncol k p.notes.order p.diagonals.blocks (is_block v.diagonal) v.chosen.kp.0 (omega (arith, g.last)) g.from
    (omega (arith, g.row)) w)

-- a step keeps all four
pub noted-kept : (how : Pivoting) (ncol ke k : ℕ) (p : Pivots) (v : Pivot) → ke ≤ ncol → GoodPivot how ke k v → Kept how.mode ncol k p
    → KeptPast how.mode ncol k p v
unfolding noted step_puts
noted-kept how ncol ke k p v h g w =
    let block = is_block v.diagonal in
    let e = last_of k block in
    record {
      order =
          swapped-permutes ncol (swapped p.notes.order k v.chosen.p.0) e v.chosen.kp.0 (omega (arith, g.last)) (omega (arith, g.row))
          (swapped-permutes ncol p.notes.order k v.chosen.p.0 (omega (arith, g.last, last-from k block)) (omega (arith, g.own, g.last, last-from k block))
          w.order);
      recorded = noted-recorded how ke k p v g w.recorded;
      walked = walked-noted how ncol ke k p v h g w.walked;
      told = step-told how.mode k p.diagonals.blocks p.notes.tests v.chosen.test g.allowed block w.recorded.paired g.kind w.told;
    }

-- a panel keeps them
pub panel-kept : (ncol ke : ℕ) (how : Pivoting) (n k : ℕ) (s : State) → k ≤ ke → ke ≤ ncol → ke - k ≤ n → Kept how.mode ncol k s.pivots
    → Reached (Kept how.mode ncol) ke (panel_of ke how n k s)
panel-kept ncol ke how n k s h l f w =
    panel-reached ke how (Kept how.mode ncol) (λ j p v g x. noted-kept how ncol ke j p v l g x) n k s h f w

-- where a run was done, they hold at its end
abbrev pub AtEnd : Mode → ℕ → Run → Type 0
AtEnd mode ncol (head.refused r) = Unit {0}
AtEnd mode ncol (done s ps) = Kept mode ncol ncol s.pivots

-- a panel in front of a run changes nothing of its end
pub with-panel-kept : (mode : Mode) (ncol : ℕ) (p : Panel) (r : Run) → AtEnd mode ncol r → AtEnd mode ncol (with_panel p r)
with-panel-kept mode ncol p (head.refused r) w = tt
with-panel-kept mode ncol p (done s ps) w = w

-- what a panel reached, the rest of the run goes on from
pub continued-kept : (mode : Mode) (ncol ke : ℕ) (g : Progress) (f : State → Run) → Reached (Kept mode ncol) ke g
    → ((t : State) → Kept mode ncol ke t.pivots → AtEnd mode ncol (f t)) → AtEnd mode ncol (continued g f)
continued-kept mode ncol ke (stopped r) f e next = tt
continued-kept mode ncol ke (going k s) f e next = next s e.1

-- the later columns of a panel leave the pivots as they are
pub same-pivots : (mode : Mode) (ncol k : ℕ) (p : Panel) (u : State) → Kept mode ncol k u.pivots → Kept mode ncol k (passed p u).pivots
unfolding passed
same-pivots mode ncol k p u w = w

-- panels in turn keep them
pub panels-kept : (how : Pivoting) (ncol nb n kb : ℕ) (s : State) → 1 ≤ nb → kb ≤ ncol → ncol - kb ≤ n → Kept how.mode ncol kb s.pivots
    → AtEnd how.mode ncol (panels_of how ncol nb n kb s)
unfolding panels_of
panels-kept how ncol nb zero kb s b h f w = let e : kb ≡ ncol = omega arith in subst (λ (m : ℕ). Kept how.mode ncol m s.pivots) e w
panels-kept how ncol nb (suc n) kb s b h f w =
    test (ltb kb ncol)
    (λ t. let l : kb < ncol = ltb-true kb ncol t in
    let ke = min (kb + nb) ncol in
    rw t (continued-kept how.mode ncol ke (panel_of ke how (ke - kb) kb s)
    (λ u. with_panel (closed kb ke u) (panels_of how ncol nb n ke (passed (closed kb ke u) u)))
    (panel-kept ncol ke how (ke - kb) kb s (omega arith) (omega arith) (omega arith) w)
    (λ u kept. with-panel-kept how.mode ncol (closed kb ke u) (panels_of how ncol nb n ke (passed (closed kb ke u) u))
    (panels-kept how ncol nb n ke (passed (closed kb ke u) u) b (omega arith) (omega arith) (same-pivots how.mode ncol ke (closed kb ke u) u kept)))))
    (λ t. let e : kb ≡ ncol = omega (arith, ltb-false kb ncol t) in rw t (subst (λ (m : ℕ). Kept how.mode ncol m s.pivots) e w))

-- of the head's run
pub head-kept : (how : Pivoting) (ncol nb : ℕ) (a : Mat) → 1 ≤ nb → AtEnd how.mode ncol (head_run_of how ncol nb a)
unfolding head_run_of start
head-kept how ncol nb a b =
    panels-kept how ncol (min nb (max ncol 1)) ncol 0 (start ncol (head_of ncol a)) (omega arith) (omega arith) (omega arith)
    (record {
      order = own-places ncol;
      recorded = none-recorded _ _;
      walked = none-walked ncol;
      told = none-told how.mode (λ i. 0) (λ i. 0);
    })

-- ---- an accepted call

-- it passed the entry checks, and its head stands
pub record Accepted (x : Call) : Type 0 where
  pub state : State
  pub panels : List Panel
  pub entry : PastEntry x
  pub head : head_answer_of (pivoting_of x.settings) x.settings.ncol x.settings.nb (view x.settings.nrow x.input) ≡ stands state panels

-- a call that answers acceptance is one
pub accepted-is : (x : Call) (r : Report) → (outcome_of x).answer ≡ accepted r → Accepted x
unfolding factor_of
accepted-is x r e = by-check (entry_check x.settings x.input x.lent) refl
  where
    head_of_call : HeadAnswer
    head_of_call = head_answer_of (pivoting_of x.settings) x.settings.ncol x.settings.nb (view x.settings.nrow x.input)

    answer_by : Check → HeadAnswer → Said Report
    answer_by c h = (after_check c (after_head h x.settings (view x.settings.nrow x.input) x.lent) x.lent).answer

    by-head : entry_check x.settings x.input x.lent ≡ Ok tt → (h : HeadAnswer) → head_of_call ≡ h → Accepted x
    by-head c (fails why) h =
        absurd (refused-not why r (outcome_of x).answer (ap (λ (k : Check). answer_by k head_of_call) c ∙ ap (λ (k : HeadAnswer). answer_by (Ok tt) k) h) e)
    by-head c (stands s ps) h = record { state = s; panels = ps; entry = c; head = h }

    by-check : (c : Check) → entry_check x.settings x.input x.lent ≡ c → Accepted x
    by-check (Ok u) h = by-head h head_of_call refl
    by-check (Err why) h = absurd (refused-not why r (outcome_of x).answer (ap (λ (k : Check). answer_by k head_of_call) h) e)

-- the run of a head that stands was done
pub stands-kept : (mode : Mode) (ncol : ℕ) (g : Run) (s : State) (ps : List Panel) → AtEnd mode ncol g
    → judged_run ncol g ≡ stands s ps → Kept mode ncol ncol s.pivots
stands-kept mode ncol (head.refused r) s ps w e = absurd (let z : ◌≡◌ {A = ℕ} 0 1 = cc in omega arith)
stands-kept mode ncol (done t qs) s ps w e = by-check (result_check ncol t.pivots.diagonals t.a ncol 0) e
  where
    by-check : (c : Check) → judged c t qs ≡ stands s ps → Kept mode ncol ncol s.pivots
    by-check (Ok u) h = let z : t ≡ s = cc in subst (λ (u : State). Kept mode ncol ncol u.pivots) z w
    by-check (Err why) h = absurd (let z : ◌≡◌ {A = ℕ} 0 1 = cc in omega arith)

-- what its run has kept at the end
pub accepted-kept : (x : Call) (w : Accepted x) → Kept x.settings.mode x.settings.ncol x.settings.ncol w.state.pivots
unfolding head_answer_of
accepted-kept x w =
    stands-kept x.settings.mode x.settings.ncol (head_run_of (pivoting_of x.settings) x.settings.ncol x.settings.nb (view x.settings.nrow x.input))
    w.state w.panels
    (head-kept (pivoting_of x.settings) x.settings.ncol x.settings.nb (view x.settings.nrow x.input) passed_entry.some) w.head
  where
    passed_entry : Passed x.settings x.input x.lent
    passed_entry = entry-passed x.settings x.input x.lent w.entry

-- what it leaves
pub accepted-leaves : (x : Call) (w : Accepted x)
    → outcome_of x ≡ after_head (stands w.state w.panels) x.settings (view x.settings.nrow x.input) x.lent
accepted-leaves x w =
    past-entry x.settings x.input x.lent w.entry
    ∙ ap (λ (h : HeadAnswer). after_head h x.settings (view x.settings.nrow x.input) x.lent) w.head

-- ---- the order

-- a permutation of 0 .. nrow - 1 that leaves the tail in place
pub record Ordered (ncol nrow : ℕ) (order : List ℕ) : Type 0 where
  pub all : length order ≡ nrow
  pub inside : (i : ℕ) → i < nrow → naturals order i < nrow
  pub distinct : (i j : ℕ) → i < nrow → j < nrow → naturals order i ≡ naturals order j → i ≡ j
  pub tail : (i : ℕ) → ncol ≤ i → i < nrow → naturals order i ≡ i

-- a list made of such a permutation is one
pub ordered : (ncol nrow : ℕ) (f : ℕ → ℕ) → ncol ≤ nrow → Permutes ncol f → Ordered ncol nrow (tabulate nrow f)
unfolding naturals
ordered ncol nrow f l w = record {
  all = length-tabulate_from 0 nrow f;
  inside = λ i h. subst (λ (v : ℕ). v < nrow) (sym (get_d_tabulate nrow i f 0 h)) (permutes_inside ncol nrow f w l i h);
  distinct = λ i j h g e. permutes-apart ncol f w i j (sym (get_d_tabulate nrow i f 0 h) ∙ e ∙ get_d_tabulate nrow j f 0 g);
  tail = λ i h g. get_d_tabulate nrow i f 0 g ∙ w.fixes i h;
}

-- its order
pub accepted-ordered : (x : Call) → Accepted x → Ordered x.settings.ncol x.settings.nrow (outcome_of x).buffers.order
accepted-ordered x w =
    let p : Passed x.settings x.input x.lent = entry-passed x.settings x.input x.lent w.entry in
    subst (λ (o : List ℕ). Ordered x.settings.ncol x.settings.nrow o) (sym (ap (λ (o : Outcome). o.buffers.order) (accepted-leaves x w)))
    (ordered x.settings.ncol x.settings.nrow w.state.pivots.notes.order p.head (accepted-kept x w).order)

-- ---- the block bytes

-- neither inertia nor an update answers 16 to what an accepted call emits
pub accepted-bytes : (x : Call) → Accepted x → check_bytes (outcome_of x).buffers.blocks ≡ Ok tt
accepted-bytes x w =
    ap (λ (o : Outcome). check_bytes o.buffers.blocks) (accepted-leaves x w)
    ∙ tabulated-bytes x.settings.ncol w.state.pivots.diagonals.blocks (accepted-kept x w).recorded.paired

-- ---- the test numbers

-- they tell what is said of them
pub tests-tell : TestsTell
tests-tell x r e =
    let w : Accepted x = accepted-is x r e in
    let n : ℕ = x.settings.ncol in
    told-alike x.settings.mode n w.state.pivots.diagonals.blocks w.state.pivots.notes.tests
    (naturals (outcome_of x).buffers.blocks) (naturals (outcome_of x).buffers.tests)
    (λ k h. ap (λ (o : Outcome). naturals o.buffers.blocks k) (accepted-leaves x w) ∙ bytes-tabulate n k w.state.pivots.diagonals.blocks h)
    (λ k h. ap (λ (o : Outcome). naturals o.buffers.tests k) (accepted-leaves x w) ∙ bytes-tabulate n k w.state.pivots.notes.tests h)
    (accepted-kept x w).told
