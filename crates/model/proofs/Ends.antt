-- A factor call that passes the entry checks is accepted, or ends in a run refusal of its mode at one of its columns. Assumes nothing.
use mathlib.Core.Path.{◌≡◌, refl}
use mathlib.Core.Bool.{true}
use mathlib.Core.List.{List}
use Prim.Native.Nat.{ℕ, zero, suc, ◌+◌, ◌-◌, ◌≤◌, ◌<◌, min, max}
use native.Mathlib.Omega.{arith}
use borrow.Author.Tests.{ltb-true}
use lib.Dec.{ltb}
use lib.Ieee.{Float, lt, le}
use Rattle.std.specs.Prelude.{Option, Some, None, Result, Ok, Err}
use Rattle.model.specs.Scalar.{◌⊕◌, magnitude_of}
use Rattle.model.specs.Matrix.{Mat, view, head_of, exchanged}
use Rattle.model.specs.Choice.{with_row, choose_of}
use Rattle.model.specs.Step.{Diagonals, block_of}
use Rattle.model.specs.Panel.{Panel}
use Rattle.model.specs.Head as head
use Rattle.model.specs.Head.{State, settled_one, raised_from, settled_two, growth_floor_of, bar_of, lift_step_of, Tried, refused_by, took, after_one, after_two}
use Rattle.model.specs.Head.{try_block, try_by, try_of, Progress, stopped, going, after, panel_of, Run, done, closed, passed, with_panel, continued, panels_of}
use Rattle.model.specs.Answer.{numbered, Check}
use Rattle.model.specs.Factor.{pivoting_of, start, head_run_of, HeadAnswer, fails, stands, judged, judged_run, head_answer_of, column_sound, result_check}
use Rattle.model.specs.Factor.{after_head, factor_of}
use Rattle.model.specs.Ends.{run_refusals, among, RunRefusal, Ends, EndsInItsMode}
use Rattle.model.specs.declared.Mode.{Mode}
use Rattle.model.specs.declared.Mode.TheVariants.{Fail, Lift}
use Rattle.model.specs.declared.Pivoting.{Pivoting}
use Rattle.model.specs.declared.Block.{Block}
use Rattle.model.specs.declared.Choice.{Choice}
use Rattle.model.specs.declared.Choice.TheVariants as choice
use Rattle.model.specs.declared.Chosen.{Chosen}
use Rattle.model.specs.declared.PivotTest.TheVariants as by
use Rattle.model.specs.declared.OneSettled.{OneSettled}
use Rattle.model.specs.declared.TwoSettled.{TwoSettled}
use Rattle.model.specs.declared.Unfit.{Unfit}
use Rattle.model.specs.declared.Unfit.TheVariants.{Low, OutOfRounds}
use Rattle.model.specs.declared.Refusal.{Refusal}
use Rattle.model.proofs.Cases.{test}

-- ---- what a mode makes of a chosen pivot

-- Lift takes every 1x1
abbrev OneEnds : Mode → Option OneSettled → Type 0
OneEnds Fail s = Unit {0}
OneEnds (Lift floor) None = ⊥
OneEnds (Lift floor) (Some s) = Unit {0}

one-ends : (mode : Mode) (d : Float) → OneEnds mode (settled_one mode d)
unfolding settled_one
one-ends Fail d = tt
one-ends (Lift floor) d = test (lt (magnitude_of d) floor) (λ t. rw t tt) (λ t. rw t tt)

-- Fail counts no rounds, and Lift has no block that is too low
abbrev TwoEnds : Mode → Result TwoSettled Unfit → Type 0
TwoEnds Fail (Err Low) = Unit {0}
TwoEnds Fail (Err OutOfRounds) = ⊥
TwoEnds Fail (Ok s) = Unit {0}
TwoEnds (Lift floor) (Err Low) = ⊥
TwoEnds (Lift floor) (Err OutOfRounds) = Unit {0}
TwoEnds (Lift floor) (Ok s) = Unit {0}

raised-ends : (floor : Float) (b : Block) (bar step : Float) (left r : ℕ) (sum : Float) → TwoEnds (Lift floor) (raised_from b bar step left r sum)
unfolding raised_from
raised-ends floor b bar step zero r total = tt
raised-ends floor b bar step (suc left) r total =
    test (lt (magnitude_of (block_of (b.d11 ⊕ total) b.d21 (b.d22 ⊕ total)).det) bar)
    (λ t. rw t (raised-ends floor b bar step left (r + 1) (total ⊕ step))) (λ t. rw t tt)

two_ends : (mode : Mode) (limit : ℕ) (b : Block) → TwoEnds mode (settled_two mode limit b)
unfolding settled_two
two_ends Fail limit b = test (le (magnitude_of b.det) (growth_floor_of b)) (λ t. rw t tt) (λ t. rw t tt)
two_ends (Lift floor) limit b =
    test (lt (magnitude_of b.det) (bar_of floor b))
    (λ t. rw t (raised-ends floor b (bar_of floor b) (lift_step_of floor b) limit 1 (lift_step_of floor b))) (λ t. rw t tt)

-- ---- a step, a panel, the panels: either goes on, or ends so

module _ (ncol : ℕ) where
  abbrev Stops : Mode → Refusal → Type 0
  Stops mode r = RunRefusal mode ncol (numbered r).0 (numbered r).1 (numbered r).2

  abbrev TriedEnds : Mode → Tried → Type 0
  TriedEnds mode (refused_by r) = Stops mode r
  TriedEnds mode (took v a m) = Unit {0}

  module _ (ke : ℕ) (a m : Mat) (k : ℕ) (h : k < ncol) where
    after_one_lem : (mode : Mode) (c : Chosen) (s : Option OneSettled) → OneEnds mode s → TriedEnds mode (after_one ke a m k c s)
    unfolding among
    after_one_lem Fail c None w = record { listed = refl; column = h; alone = refl }
    after_one_lem (Lift floor) c None w = absurd w
    after_one_lem mode c (Some s) w = tt

    try_one : (mode : Mode) (c : Chosen) (d : Float) → TriedEnds mode (after_one ke a m k c (settled_one mode d))
    try_one mode c d = after_one_lem mode c (settled_one mode d) (one-ends mode d)

    after_two_lem : (mode : Mode) (c : Chosen) (s : Result TwoSettled Unfit) → TwoEnds mode s → TriedEnds mode (after_two ke a m k c s)
    unfolding among
    after_two_lem Fail c (Err Low) w = record { listed = refl; column = h; alone = refl }
    after_two_lem (Lift floor) c (Err Low) w = absurd w
    after_two_lem Fail c (Err OutOfRounds) w = absurd w
    after_two_lem (Lift floor) c (Err OutOfRounds) w = record { listed = refl; column = h; alone = refl }
    after_two_lem mode c (Ok s) w = tt

    try-block : (mode : Mode) (limit : ℕ) (c : Chosen) → TriedEnds mode (try_block ke a m mode limit k c)
    try-block mode limit c = after_two_lem mode c (settled_two mode limit _) (two_ends mode limit _)

  module _ (ke : ℕ) (a m : Mat) (k : ℕ) (h : k < ncol) where
    try-by : (mode : Mode) (limit : ℕ) (o : Choice) → TriedEnds mode (try_by ke a m mode limit k o)
    unfolding among
    try-by Fail limit choice.ZeroColumn = record { listed = refl; column = h; alone = refl }
    try-by (Lift floor) limit choice.ZeroColumn = try_one ke a m k h (Lift floor) (with_row by.ZeroColumn k (record { 0 = k })) (a k k)
    try-by Fail limit (choice.Single c) = try_one ke a m k h Fail c (a c.kp.0 c.kp.0)
    try-by (Lift floor) limit (choice.Single c) = try_one ke a m k h (Lift floor) c (a c.kp.0 c.kp.0)
    try-by Fail limit (choice.Block c) = try-block ke (exchanged k c.p.0 ke a) m k h Fail limit c
    try-by (Lift floor) limit (choice.Block c) = try-block ke (exchanged k c.p.0 ke a) m k h (Lift floor) limit c

  try-ends : (ke : ℕ) (a m : Mat) (how : Pivoting) (k : ℕ) → k < ncol → TriedEnds how.mode (try_of ke a m how k)
  unfolding try_of
  try-ends ke a m how k h = try-by ke a m k h how.mode how.limit (choose_of a k ke)

  abbrev ProgressEnds : Mode → Progress → Type 0
  ProgressEnds mode (stopped r) = Stops mode r
  ProgressEnds mode (going k s) = Unit {0}

  after-ends : (mode : Mode) (t : Tried) (s : State) (k : ℕ) (f : ℕ → State → Progress) → TriedEnds mode t → ((j : ℕ) (u : State) → ProgressEnds mode (f j u))
      → ProgressEnds mode (after t s k f)
  after-ends mode (refused_by r) s k f w next = w
  after-ends mode (took v a m) s k f w next = next _ _

  panel-ends : (ke : ℕ) (how : Pivoting) (n k : ℕ) (s : State) → ke ≤ ncol → ProgressEnds how.mode (panel_of ke how n k s)
  unfolding panel_of
  panel-ends ke how zero k s h = tt
  panel-ends ke how (suc n) k s h =
      test (ltb k ke)
      (λ t. let l : k < ke = ltb-true k ke t in
      rw t (after-ends how.mode (try_of ke s.a s.mult how k) s k (panel_of ke how n) (try-ends ke s.a s.mult how k (omega arith))
      (λ j u. panel-ends ke how n j u h)))
      (λ t. rw t tt)

  abbrev RunEnds : Mode → Run → Type 0
  RunEnds mode (head.refused r) = Stops mode r
  RunEnds mode (done s ps) = Unit {0}

  with-panel : (mode : Mode) (p : Panel) (r : Run) → RunEnds mode r → RunEnds mode (with_panel p r)
  with-panel mode p (head.refused r) w = w
  with-panel mode p (done s ps) w = tt

  continued-ends : (mode : Mode) (g : Progress) (f : State → Run) → ProgressEnds mode g → ((t : State) → RunEnds mode (f t)) → RunEnds mode (continued g f)
  continued-ends mode (stopped r) f w next = w
  continued-ends mode (going k s) f w next = next s

  panels-ends : (how : Pivoting) (nb n kb : ℕ) (s : State) → RunEnds how.mode (panels_of how ncol nb n kb s)
  unfolding panels_of
  panels-ends how nb zero kb s = tt
  panels-ends how nb (suc n) kb s =
      test (ltb kb ncol)
      (λ t. let ke = min (kb + nb) ncol in
      let rest : State → Run = λ u. panels_of how ncol nb n ke (passed (closed kb ke u) u) in
      rw t (continued-ends how.mode (panel_of ke how (ke - kb) kb s) (λ u. with_panel (closed kb ke u) (rest u))
      (panel-ends ke how (ke - kb) kb s (omega arith))
      (λ u. with-panel how.mode (closed kb ke u) (rest u) (panels-ends how nb n ke (passed (closed kb ke u) u)))))
      (λ t. rw t tt)

  -- ---- the look at the result

  abbrev CheckEnds : Mode → Check → Type 0
  CheckEnds mode (Ok u) = Unit {0}
  CheckEnds mode (Err r) = Stops mode r

  nine : (mode : Mode) → among 9 (run_refusals mode) ≡ true
  unfolding among
  nine Fail = refl
  nine (Lift floor) = refl

  result-ends : (mode : Mode) (D : Diagonals) (a : Mat) (n k : ℕ) → k + n ≤ ncol → CheckEnds mode (result_check ncol D a n k)
  unfolding result_check
  result-ends mode D a zero k h = tt
  result-ends mode D a (suc n) k h =
      test (column_sound ncol D a k) (λ t. rw t (result-ends mode D a n (k + 1) (omega arith)))
      (λ t. rw t (record { listed = nine mode; column = omega arith; alone = refl }))

  abbrev HeadEnds : Mode → HeadAnswer → Type 0
  HeadEnds mode (fails r) = Stops mode r
  HeadEnds mode (stands s ps) = Unit {0}

  judged-ends : (mode : Mode) (c : Check) (s : State) (ps : List Panel) → CheckEnds mode c → HeadEnds mode (judged c s ps)
  judged-ends mode (Ok u) s ps w = tt
  judged-ends mode (Err r) s ps w = w

  run_ends : (mode : Mode) (r : Run) → RunEnds mode r → HeadEnds mode (judged_run ncol r)
  run_ends mode (head.refused r) w = w
  run_ends mode (done s ps) w =
      let D = s.pivots.diagonals in
      judged-ends mode (result_check ncol D s.a ncol 0) s ps (result-ends mode D s.a ncol 0 (omega arith))

-- ---- the call

pub ends-in-its-mode : EndsInItsMode
unfolding factor_of head_answer_of head_run_of
ends-in-its-mode x e =
    let c = x.settings in
    let a = view c.nrow x.input in
    rw e (answered (head_answer_of (pivoting_of c) c.ncol c.nb a)
    (run_ends c.ncol c.mode (head_run_of (pivoting_of c) c.ncol c.nb a)
    (panels-ends c.ncol (pivoting_of c) (min c.nb (max c.ncol 1)) c.ncol 0 (start c.ncol (head_of c.ncol a)))))
  where
    answered : (h : HeadAnswer) → HeadEnds x.settings.ncol x.settings.mode h
        → Ends x.settings.mode x.settings.ncol (after_head h x.settings (view x.settings.nrow x.input) x.lent).answer
    answered (fails r) w = w
    answered (stands s ps) w = tt
