-- Laws of a call's checks: which of two decides, and what an assembly or an update leaves. k and l are what checks answered. Assumes nothing.
use mathlib.Core.Path.{◌≡◌}
use mathlib.Core.List.{List}
use lib.Ieee.{Float}
use Rattle.std.specs.Prelude.{Ok, Err}
use Rattle.model.specs.Assembly.{panel_after}
use Rattle.model.specs.Answer.{Check, Applied, or_else}
use Rattle.model.specs.declared.Refusal.{Refusal}
use Rattle.checks.specs.Answers.{leaves}

-- where two checks follow each other: the first refuses, or it passes and the second decides
pub first-refuses : (k : Check) (r : Refusal) (c rest : Check) → k ≡ Err r → k ≡ c → k ≡ or_else c rest
first-refuses k r c rest h e = rw (← e, h)

pub second-decides : (k l c rest : Check) → k ≡ Ok tt → k ≡ c → l ≡ rest → l ≡ or_else c rest
second-decides k l c rest h e f = rw (← e, h) f

-- what a call leaves: c is its check, new the panel where it passes
pub leaves-done : (k c : Check) (new panel : List Float) → k ≡ Ok tt → k ≡ c → leaves (Ok tt) new ≡ panel_after c new panel
leaves-done k c new panel h e = rw (← e, h)

pub leaves-refused : (k : Check) (r : Refusal) (c : Check) (a : Applied) (new panel : List Float) → k ≡ Err r → k ≡ c → a ≡ k
    → leaves a panel ≡ panel_after c new panel
leaves-refused k r c a new panel h e f = rw (f, ← e, h)
