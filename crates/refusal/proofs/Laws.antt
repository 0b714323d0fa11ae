-- A refusal has one number and one place, whatever its call accepts with. Assumes nothing.
use mathlib.Core.Path.{◌≡◌, ap}
use Prim.Native.Nat.{ℕ}
use Rattle.model.specs.Answer.{Said, refused, accepted, turned_away}
use Rattle.model.specs.declared.Refusal.{Refusal}

-- the answer of a call that accepts with nothing, as that of any other; its acceptance is not spoken of
abbrev other : {A : Type 0} → Said (Unit {0}) → Said A
other (refused n a b) = refused n a b
other (accepted x) = refused 0 0 0

-- what a refusal's `NumberAndPlace` is of this answer holds of the answers of every call
pub turned-away :
    {A : Type 0} {n a b : ℕ} (why : Refusal) → ◌≡◌ {A = Said (Unit {0})} (refused n a b) (turned_away why)
    → ◌≡◌ {A = Said A} (refused n a b) (turned_away why)
turned-away {A = A} why e = ap (λ (x : Said (Unit {0})). other {A = A} x) e
