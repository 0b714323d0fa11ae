-- The run refusals by mode: what a factor call that passes the entry checks can end in if it is not accepted. From docs/SCOPE.md, "Refusals".
-- `EndsInItsMode` is the statement; proofs/Ends.antt proves it. Definitions only. Assumes nothing.
use Rattle.std.specs.Prelude.{◌≡◌, Bool, true, false, ◌||◌, List, [], ◌∷◌, ℕ, ◌<◌, eqb}
use Rattle.model.specs.Answer.{Said, refused, accepted}
use Rattle.model.specs.Independence.{Call, PastEntry, outcome_of}
use Rattle.model.specs.declared.Mode.{Mode}
use Rattle.model.specs.declared.Mode.TheVariants.{Fail, Lift}
use Rattle.model.specs.declared.Report.{Report}

-- Fail meets no 8, and Lift none of the stops 7, 23 and 24
abbrev pub run_refusals : Mode → List ℕ
run_refusals Fail = 7 ∷ 9 ∷ 23 ∷ 24 ∷ []
run_refusals (Lift floor) = 8 ∷ 9 ∷ []

unfoldable pub among : ℕ → List ℕ → Bool
among n [] = false
among n (m ∷ ms) = eqb n m || among n ms

-- a number of the mode's, at one of the node's columns
pub record RunRefusal (mode : Mode) (ncol n a b : ℕ) : Type 0 where
  pub listed : among n (run_refusals mode) ≡ true
  pub column : a < ncol
  pub alone : b ≡ 0

abbrev pub Ends : Mode → ℕ → Said Report → Type 0
Ends mode ncol (refused n a b) = RunRefusal mode ncol n a b
Ends mode ncol (accepted r) = Unit {0}

abbrev pub EndsInItsMode : Type 0
EndsInItsMode = (x : Call) → PastEntry x → Ends x.settings.mode x.settings.ncol (outcome_of x).answer
