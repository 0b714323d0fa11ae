-- Plain numbers: an answer as its refusal's number and place or its counts, a mode as a flag and a floor.
-- Definitions only. Assumes nothing.
use Rattle.std.specs.Prelude.{Bool, cond, ℕ, Float}
use Rattle.model.specs.Answer.{Said, refused, accepted}
use Rattle.model.specs.Inertia.{empty}
use Rattle.model.specs.declared.Mode.{Mode}
use Rattle.model.specs.declared.Mode.TheVariants.{Fail, Lift}
use Rattle.model.specs.declared.Report.{Report}
use Rattle.model.specs.declared.Tally.{Tally}
use Rattle.outcome.specs.declared.Outcome.{Outcome}

-- Lift with the floor where the flag is set; else Fail, and the floor is not read
abbrev pub mode_of : Bool → Float → Mode
mode_of lift floor = cond lift (Lift floor) Fail

-- a refusal's number and place, with nothing counted
abbrev pub refused_as : (number a b : ℕ) → Outcome
refused_as n a b = record { number = n; a = a; b = b; rounds = 0; positive = 0; negative = 0; zero = 0 }

-- number 0 is acceptance
abbrev pub reported_as : ℕ → Tally → Outcome
reported_as rounds t = record { number = 0; a = 0; b = 0; rounds = rounds; positive = t.positive; negative = t.negative; zero = t.zero }

-- a factor call has rounds and counts
abbrev pub factor_numbers : Said Report → Outcome
factor_numbers (refused n a b) = refused_as n a b
factor_numbers (accepted r) = reported_as r.rounds r.inertia

-- an inertia call counts, without rounds
abbrev pub inertia_numbers : Said Tally → Outcome
inertia_numbers (refused n a b) = refused_as n a b
inertia_numbers (accepted t) = reported_as 0 t

-- every other call has neither
abbrev pub panel_numbers : Said (Unit {0}) → Outcome
panel_numbers (refused n a b) = refused_as n a b
panel_numbers (accepted x) = reported_as 0 empty
