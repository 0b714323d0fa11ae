-- Whether a number of a list is finite, and what is refused where one is not. Definitions only. Assumes nothing.
use Rattle.std.specs.Prelude.{Bool, List, ℕ, Float, Option, Some, None, Ok, Err}
use Rattle.model.specs.Scalar.{is_finite}
use Rattle.model.specs.Matrix.{vec}
use Rattle.model.specs.Answer.{Check}
use Rattle.model.specs.declared.Refusal.{Refusal}

-- number k of the list is finite
unfoldable pub finite_at : List Float → ℕ → Bool
finite_at xs = λ k. is_finite (vec xs k)

-- the refusal at the place that a scan found, or none
abbrev pub refused_at : (ℕ → Refusal) → Option ℕ → Check
refused_at at None = Ok tt
refused_at at (Some k) = Err (at k)
