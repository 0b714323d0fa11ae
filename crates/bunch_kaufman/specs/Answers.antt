-- The answer of a panel's steps in the model's words. Definitions only. Assumes nothing.
use Rattle.std.specs.Prelude.{ℕ, Result, Ok, Err}
use Rattle.model.specs.Head.{State, Progress, stopped, going}
use Rattle.model.specs.declared.Refusal.{Refusal}

-- a refusal of the run, or the rounds of all block lifts so far
abbrev pub Ran : Type 0
Ran = Result ℕ Refusal

-- at column k, with the state that the steps leave, by its rounds
unfoldable pub progress : Ran → ℕ → (ℕ → State) → Progress
progress (Err r) k s = stopped r
progress (Ok rounds) k s = going k (s rounds)
