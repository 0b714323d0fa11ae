-- What the test numbers of an accepted factor call tell, position by position. From docs/SCOPE.md, "The pivot tests". `TestsTell` is the statement;
-- proofs/Accepted.antt proves it, by proofs/Tests.antt for a step. Definitions only. Assumes nothing.
use Rattle.std.specs.Prelude.{◌≡◌, Bool, true, false, ◌||◌, ℕ, ◌<◌}
use Rattle.model.specs.Matrix.{naturals}
use Rattle.model.specs.Choice.{test_number}
use Rattle.model.specs.Step.{begins, ends_block}
use Rattle.model.specs.Answer.{accepted}
use Rattle.model.specs.Independence.{Call, outcome_of}
use Rattle.model.specs.declared.Mode.{Mode}
use Rattle.model.specs.declared.Mode.TheVariants.{Fail, Lift}
use Rattle.model.specs.declared.PivotTest.{PivotTest}
use Rattle.model.specs.declared.PivotTest.TheVariants as by
use Rattle.model.specs.declared.Report.{Report}

-- what a test chooses is a block
abbrev pub chooses_block : PivotTest → Bool
chooses_block by.ZeroColumn = false
chooses_block by.OwnDiagonal = false
chooses_block by.RowTest = false
chooses_block by.ExchangedDiagonal = false
chooses_block by.Block = true

-- what a test chooses can be a pivot in this mode: a zero column in Lift alone
abbrev pub AllowedIn : Mode → PivotTest → Type 0
AllowedIn Fail by.ZeroColumn = ⊥
AllowedIn (Lift floor) by.ZeroColumn = Unit {0}
AllowedIn mode by.OwnDiagonal = Unit {0}
AllowedIn mode by.RowTest = Unit {0}
AllowedIn mode by.ExchangedDiagonal = Unit {0}
AllowedIn mode by.Block = Unit {0}

-- position k belongs to a block, as its first or its second
abbrev pub in_block : (ℕ → ℕ) → ℕ → Bool
in_block blocks k = begins blocks k || ends_block blocks k

-- of a position, which belongs to a block or not: its number is that of a test, one that chooses a block if it does and no other, and a zero column's in
-- Lift alone
pub record ToldAt (mode : Mode) (block : Bool) (number : ℕ) : Type 0 where
  pub test : PivotTest
  pub is : number ≡ test_number test
  pub kind : chooses_block test ≡ block
  pub allowed : AllowedIn mode test

-- of the positions before n
abbrev pub Told : Mode → ℕ → (blocks tests : ℕ → ℕ) → Type 0
Told mode n blocks tests = (k : ℕ) → k < n → ToldAt mode (in_block blocks k) (tests k)

-- of every factor call that is accepted
abbrev pub TestsTell : Type 0
TestsTell = (x : Call) (r : Report) → (outcome_of x).answer ≡ accepted r
    → Told x.settings.mode x.settings.ncol (naturals (outcome_of x).buffers.blocks) (naturals (outcome_of x).buffers.tests)
