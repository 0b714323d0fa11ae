-- Refusals by number and place. From docs/SCOPE.md, "Refusals", and docs/REFUSALS.md. The one definition that gives a declared answer its number and
-- place. Definitions only. Assumes nothing.
use Rattle.std.specs.Prelude.{Bool, cond, ℕ, Result, Ok, Err}
use Rattle.model.specs.declared.Refusal.{Refusal}
use Rattle.model.specs.declared.Refusal.TheVariants.{Shape, Width, Length, Floor, Limit, Input, ZeroColumn, Rounds, NotFinite, AssemblyLength}
use Rattle.model.specs.declared.Refusal.TheVariants.{AssemblyPlace, AssemblyNumber, UpdateLength, TargetRows, DescendantRows, BlockByte, AbsentRow}
use Rattle.model.specs.declared.Refusal.TheVariants.{DescendantNumber, InertiaLength, ZeroPivot, LowBlock, BufferLength, OrderPlace}
use Rattle.model.specs.declared.Refusal.TheVariants.{RightSide, BlockRow, ListNumber, ListPair}
use Rattle.model.specs.declared.Report.{Report}
use Rattle.model.specs.declared.Tally.{Tally}

-- what a call says: a refusal's number and place A, B, or what it accepts with
pub data Said (A : Type 0) : Type 0 where
  refused : (number a b : ℕ) → Said A
  accepted : A → Said A

-- ---- the answers

-- what a check finds: nothing, or the refusal
abbrev pub Check : Type 0
Check = Result (Unit {0}) Refusal

-- the first of two checks that refuses
abbrev pub or_else : Check → Check → Check
or_else (Ok u) c = c
or_else (Err r) c = Err r

-- a check's refusal, else what follows
abbrev pub past_check : {A : Type 0} → Check → Result A Refusal → Result A Refusal
past_check (Ok u) x = x
past_check (Err r) x = Err r

abbrev pub refuse_if : Bool → Refusal → Check
refuse_if b r = cond b (Err r) (Ok tt)

-- the answer of a factor call; of an inertia call; of every other
abbrev pub Factored : Type 0
Factored = Result Report Refusal

abbrev pub Counted : Type 0
Counted = Result Tally Refusal

abbrev pub Applied : Type 0
Applied = Result (Unit {0}) Refusal

-- the number of each declared refusal and its place: 0, 0 if no place is named
abbrev pub numbered : Refusal → ℕ × ℕ × ℕ
numbered Shape = (1, 0, 0)
numbered Width = (2, 0, 0)
numbered Length = (3, 0, 0)
numbered Floor = (4, 0, 0)
numbered Limit = (5, 0, 0)
numbered (Input column row) = (6, column.0, row.0)
numbered (ZeroColumn at) = (7, at.0, 0)
numbered (Rounds at) = (8, at.0, 0)
numbered (NotFinite at) = (9, at.0, 0)
numbered AssemblyLength = (10, 0, 0)
numbered (AssemblyPlace at) = (11, at, 0)
numbered (AssemblyNumber at) = (12, at, 0)
numbered UpdateLength = (13, 0, 0)
numbered TargetRows = (14, 0, 0)
numbered DescendantRows = (15, 0, 0)
numbered (BlockByte at) = (16, at.0, 0)
numbered (AbsentRow at) = (17, at, 0)
numbered (DescendantNumber at) = (18, at.0, 0)
numbered InertiaLength = (19, 0, 0)
numbered (ZeroPivot at) = (23, at.0, 0)
numbered (LowBlock at) = (24, at.0, 0)
numbered BufferLength = (25, 0, 0)
numbered (OrderPlace at) = (26, at.0, 0)
numbered (RightSide at) = (27, at.0, 0)
numbered (BlockRow at) = (28, at.0, 0)
numbered (ListNumber at) = (29, at.0, 0)
numbered (ListPair at) = (30, at.0, 0)

abbrev pub turned_away : {A : Type 0} → Refusal → Said A
turned_away r = refused (numbered r).0 (numbered r).1 (numbered r).2

abbrev pub factored_says : Factored → Said Report
factored_says (Ok r) = accepted r
factored_says (Err r) = turned_away r

abbrev pub counted_says : Counted → Said Tally
counted_says (Ok t) = accepted t
counted_says (Err r) = turned_away r

abbrev pub applied_says : Applied → Said (Unit {0})
applied_says (Ok u) = accepted u
applied_says (Err r) = turned_away r
