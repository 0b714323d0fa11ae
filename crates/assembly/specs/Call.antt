-- The assembly call's arguments as the definitions have them; what the functions below it ask of their callers.
-- Definitions only. Assumes nothing.
use Rattle.std.specs.Prelude.{◌≡◌, List, ℕ, ◌<◌, length, Float}
use Rattle.model.specs.Matrix.{naturals}
use Rattle.model.specs.Assembly.{Entries}
use Rattle.grid.specs.Grid.{In}
use Rattle.assembly.specs.declared.Entries as lent

abbrev pub entries_of : List ℕ → List ℕ → List Float → Entries
entries_of rows cols numbers = record { rows = rows; cols = cols; numbers = numbers }

-- the same of what is lent
abbrev pub entries_in : lent.Entries → Entries
entries_in es = entries_of es.rows.now es.columns.now es.numbers.now

-- three lists of one length, and every place in the panel
pub record AddPre (n : ℕ) (is js : List ℕ) (xs : List Float) (len : ℕ) : Type 0 where
  pub columns : length js ≡ length is
  pub numbers : length xs ≡ length is
  pub places : (k : ℕ) → k < length is → In n (naturals is k) (naturals js k) len
