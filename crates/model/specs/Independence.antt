-- Demand 3: tail rows steer nothing.
--
-- For the control engineer. Two utilities are joined at border rows; a border row is a tail row of a node. Take any two factor calls that pass the
-- entry checks, with the same number of columns, panel width, mode, floor and lift limit, and the same bits in the lower triangle of the first
-- ncol rows (the head). Their tail rows may differ in every number, and in how many there are. Then
--   1. both calls end in the same one of the five run refusals (7, 8, 9, 23, 24) at the same place, or both accept with the same order of the
--      head, the same pivots, each decided by the same test, the same lifts, rounds and inertia, and the same numbers in the head's lower
--      triangle (`SameHead`);
--   2. a tail row of the one and a tail row of the other that hold the same bits, wherever each stands, get the same factor row and the same
--      mark (`SameTailRow`). The two calls may be one and the same call: then this speaks of two rows of it.
-- `TailRowsSteerNothing` is that statement; proofs/Independence.antt proves it. Definitions only. Assumes nothing.
use Rattle.std.specs.Prelude.{◌≡◌, List, ℕ, ◌-◌, ◌≤◌, ◌<◌, Float, Ok}
use Rattle.model.specs.Matrix.{view, naturals}
use Rattle.model.specs.Factor.{Buffers, Outcome, entry_check, factor_of}
use Rattle.model.specs.declared.Settings.{Settings}

-- a factor call: its settings, its input and the buffers lent to it
pub record Call : Type 0 where
  pub settings : Settings
  pub input : List Float
  pub lent : Buffers

-- it passes the entry checks
abbrev pub PastEntry : Call → Type 0
PastEntry x = entry_check x.settings x.input x.lent ≡ Ok tt

-- what it leaves behind
abbrev pub outcome_of : Call → Outcome
outcome_of x = factor_of x.settings x.input x.lent

-- alike in all but the tail rows
pub record Alike (x y : Call) : Type 0 where
  pub columns : x.settings.ncol ≡ y.settings.ncol
  pub width : x.settings.nb ≡ y.settings.nb
  pub mode : x.settings.mode ≡ y.settings.mode
  pub limit : x.settings.limit ≡ y.settings.limit
  pub head : (i j : ℕ) → j ≤ i → i < x.settings.ncol → view x.settings.nrow x.input i j ≡ view y.settings.nrow y.input i j

-- the same refusal and place, or the same rounds and counts; the same pivots, lifts and test numbers, order of the head and lower head
pub record SameHead (x y : Call) : Type 0 where
  pub answer : (outcome_of x).answer ≡ (outcome_of y).answer
  pub d : (outcome_of x).buffers.d ≡ (outcome_of y).buffers.d
  pub sub : (outcome_of x).buffers.sub ≡ (outcome_of y).buffers.sub
  pub blocks : (outcome_of x).buffers.blocks ≡ (outcome_of y).buffers.blocks
  pub lifts : (outcome_of x).buffers.lifts ≡ (outcome_of y).buffers.lifts
  pub amounts : (outcome_of x).buffers.amounts ≡ (outcome_of y).buffers.amounts
  pub tests : (outcome_of x).buffers.tests ≡ (outcome_of y).buffers.tests
  pub order : (k : ℕ) → k < x.settings.ncol → naturals (outcome_of x).buffers.order k ≡ naturals (outcome_of y).buffers.order k
  pub lower : (i j : ℕ) → j ≤ i → i < x.settings.ncol
      → view x.settings.nrow (outcome_of x).buffers.panel i j ≡ view y.settings.nrow (outcome_of y).buffers.panel i j

-- row p of x and row q of y are tail rows with the same bits
pub record SameInput (x y : Call) (p q : ℕ) : Type 0 where
  pub tail_of_x : x.settings.ncol ≤ p
  pub in_x : p < x.settings.nrow
  pub tail_of_y : y.settings.ncol ≤ q
  pub in_y : q < y.settings.nrow
  pub bits : (j : ℕ) → j < x.settings.ncol → view x.settings.nrow x.input p j ≡ view y.settings.nrow y.input q j

-- the same factor row and the same mark
pub record SameTailRow (x y : Call) (p q : ℕ) : Type 0 where
  pub row : (j : ℕ) → j < x.settings.ncol
      → view x.settings.nrow (outcome_of x).buffers.panel p j ≡ view y.settings.nrow (outcome_of y).buffers.panel q j
  pub mark : naturals (outcome_of x).buffers.marks (p - x.settings.ncol) ≡ naturals (outcome_of y).buffers.marks (q - y.settings.ncol)

abbrev pub TailRowsSteerNothing : Type 0
TailRowsSteerNothing =
    (x y : Call) → PastEntry x → PastEntry y → Alike x y → SameHead x y × ((p q : ℕ) → SameInput x y p q → SameTailRow x y p q)
