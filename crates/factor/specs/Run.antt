-- What an elimination leaves. Definitions only. Assumes nothing.
use Rattle.std.specs.Prelude.{◌≡◌, List, ℕ, min, max, Float}
use Rattle.model.specs.Matrix.{view}
use Rattle.model.specs.Step.{pivots_of}
use Rattle.model.specs.Factor.{Buffers, pivoting_of, start}
use Rattle.model.specs.declared.Settings.{Settings}
use Rattle.whole.specs.Whole.{whole_panels_of}
use Rattle.bunch_kaufman.specs.Answers.{Ran}
use Rattle.panels.specs.Turn.{between}
use Rattle.panels.specs.Run.{run_of}

-- what an elimination of the input leaves in the buffers; the exchange partners are its own
pub record Eliminated (c : Settings) (given : List Float) (r : Ran) (b : Buffers) : Type 0 where
  pub partners : List ℕ
  pub run : run_of r (between c.nrow b.panel (pivots_of b.d b.sub b.blocks partners b.lifts b.amounts b.tests b.order))
      ≡ whole_panels_of (pivoting_of c) c.nrow c.ncol (min c.nb (max c.ncol 1)) c.ncol 0 (start c.ncol (view c.nrow given))
