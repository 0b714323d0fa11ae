-- One panel of the elimination over the whole panel: its steps, the rows below it, the later columns. Definitions only. Assumes nothing.
use Rattle.std.specs.Prelude.{List, ℕ, ◌-◌, Float}
use Rattle.model.specs.Matrix.{view}
use Rattle.model.specs.Step.{Pivots}
use Rattle.model.specs.Head.{State, Progress, stopped, going, panel_of, blank}
use Rattle.model.specs.declared.Pivoting.{Pivoting}
use Rattle.whole.specs.Whole.{whole_closed, whole_passed}

-- the state between two panels: no multiplier is kept
abbrev pub between : ℕ → List Float → Pivots → ℕ → State
between nrow panel p rounds = record { a = view nrow panel; mult = blank; pivots = p; rounds = rounds }

-- a panel whose steps were taken goes on to the rows below it and the later columns
abbrev pub onward : ℕ → ℕ → ℕ → ℕ → Progress → Progress
onward nrow ncol kb ke (stopped r) = stopped r
onward nrow ncol kb ke (going k s) = going ke (whole_passed nrow ncol (whole_closed nrow kb ke s) s)

unfoldable pub turn_of : Pivoting → ℕ → ℕ → ℕ → ℕ → State → Progress
turn_of how nrow ncol kb ke s = onward nrow ncol kb ke (panel_of ke how (ke - kb) kb s)
