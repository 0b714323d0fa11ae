-- A panel's buffers seen as the model's state. Definitions only. Assumes nothing.
use Rattle.std.specs.Prelude.{List, ℕ, Float}
use Rattle.model.specs.Matrix.{view}
use Rattle.model.specs.Step.{Pivots}
use Rattle.model.specs.Head.{State}
use Rattle.model.specs.declared.Frame.{Frame}
use Rattle.eliminate.specs.Eliminate.{in_panel}

-- the state over the whole panel of nrow rows, with the multipliers of columns kb to ke in a buffer of nb·nb numbers
abbrev pub state : Frame → List Float → List Float → Pivots → ℕ → State
state at panel mult p rounds =
    record { a = view at.nrow panel; mult = in_panel at.kb at.ke (view at.nb mult); pivots = p; rounds = rounds }
