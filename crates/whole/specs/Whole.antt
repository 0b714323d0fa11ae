-- The elimination over the whole panel: the model's steps, taken on a matrix that holds all nrow rows, upper positions and tail rows included.
-- A reader need not believe it: proofs/ shows that it is the model's run. Definitions only. Assumes nothing.
use Rattle.std.specs.Prelude.{cond, ℕ, zero, suc, ◌+◌, ◌-◌, min, ltb}
use Rattle.model.specs.Scalar.{zero_f}
use Rattle.model.specs.Matrix.{Row, Mat, head_of, row_of, within}
use Rattle.model.specs.Step.{Diagonals, row_after_steps}
use Rattle.model.specs.Panel.{Panel, row_deferred, tail_row_of}
use Rattle.model.specs.Head.{State, Tried, refused_by, took, Progress, stopped, going, panel_of, Run, refused, done, blank}
use Rattle.model.specs.declared.Pivoting.{Pivoting}
use Rattle.model.specs.declared.Refusal.{Refusal}

-- ---- rows below a panel

-- rows lo up to hi go through f
unfoldable pub below : ℕ → ℕ → (Row → Row) → Mat → Mat
below lo hi f a = λ i. cond (within lo hi i) (f (a i)) (a i)

-- the finished panel, with all rows from ke on after its steps
unfoldable pub whole_closed : ℕ → ℕ → ℕ → State → Panel
whole_closed nrow kb ke s =
    let D = s.pivots.diagonals in
    let partners = s.pivots.partners in
    record {
      kb = kb;
      ke = ke;
      diagonals = D;
      partners = partners;
      mult = s.mult;
      below = below ke nrow (row_after_steps D partners s.mult ke (ke - kb) kb) s.a;
    }

-- the later-panel rule on all rows from ke on, of which a holds L in columns kb to ke: a head row up to its own column, a tail row up to ncol
unfoldable pub deferred_rows : ℕ → ℕ → Diagonals → (kb ke : ℕ) → Mat → Mat
deferred_rows nrow ncol D kb ke a = λ i. cond (within ke nrow i) (row_deferred D kb ke a (min (i + 1) ncol) (a i)) (a i)

unfoldable pub whole_passed : ℕ → ℕ → Panel → State → State
whole_passed nrow ncol p s =
    record { a = deferred_rows nrow ncol p.diagonals p.kb p.ke p.below; mult = blank; pivots = s.pivots; rounds = s.rounds }

-- ---- panels in turn

-- a refusal, or the state at the end
pub data WholeRun : Type 0 where
  stopped_by : Refusal → WholeRun
  ended : State → WholeRun

abbrev pub whole_continued : Progress → (State → WholeRun) → WholeRun
whole_continued (stopped r) f = stopped_by r
whole_continued (going k s) f = f s

-- at most n panels of width nb from column kb on
unfoldable pub whole_panels_of : Pivoting → ℕ → ℕ → ℕ → ℕ → ℕ → State → WholeRun
whole_panels_of how nrow ncol nb zero kb s = ended s
whole_panels_of how nrow ncol nb (suc n) kb s =
    let ke = min (kb + nb) ncol in
    let more =
    whole_continued (panel_of ke how (ke - kb) kb s)
    (λ t. whole_panels_of how nrow ncol nb n ke (whole_passed nrow ncol (whole_closed nrow kb ke t) t)) in
    cond (ltb kb ncol) more (ended s)

-- ---- cut to the head and the tail rows

unfoldable pub cut_state : ℕ → State → State
cut_state ncol s = record { a = head_of ncol s.a; mult = s.mult; pivots = s.pivots; rounds = s.rounds }

abbrev pub cut_tried : ℕ → Tried → Tried
cut_tried ncol (refused_by r) = refused_by r
cut_tried ncol (took v a m) = took v (head_of ncol a) m

abbrev pub cut_progress : ℕ → Progress → Progress
cut_progress ncol (stopped r) = stopped r
cut_progress ncol (going k s) = going k (cut_state ncol s)

-- a run's refusal, or the head's state and the tail rows at the end
pub data Final : Type 0 where
  fell : Refusal → Final
  stood : State → Mat → Final

-- the tail rows, each cut to ncol columns and put through f; +0.0 elsewhere
unfoldable pub tail_rows : ℕ → ℕ → (Row → Row) → Mat → Mat
tail_rows nrow ncol f a = λ i. cond (within ncol nrow i) (f (row_of ncol (a i))) (λ j. zero_f)

-- of a run over the whole panel
abbrev pub cut_run : ℕ → ℕ → WholeRun → Final
cut_run nrow ncol (stopped_by r) = fell r
cut_run nrow ncol (ended s) = stood (cut_state ncol s) (tail_rows nrow ncol (λ r. r) s.a)

-- of the model's run, with the tail rows of `a` sent through its panels; the model says nothing of its state past the head
abbrev pub finished : ℕ → ℕ → Mat → Run → Final
finished nrow ncol a (refused r) = fell r
finished nrow ncol a (done s ps) = stood (cut_state ncol s) (tail_rows nrow ncol (tail_row_of ncol ps) a)
