-- What the code's step of a walk answered, as the definition's step has it. Assumes nothing.
use Rattle.std.specs.Prelude.{Result, Ok, Err}
use mathlib.Core.Path.{◌≡◌, sym}
use Prim.Native.Nat.{ℕ}
use Rattle.model.specs.declared.Refusal.{Refusal}
use Rattle.lapack.specs.Walks.{stepped}

pub taken : {S : Type 0} (l : ℕ) (t : S) (r : Result ℕ Refusal) (x : Result (ℕ × S) Refusal) → stepped r t ≡ x → r ≡ Ok l → x ≡ Ok (l, t)
taken l t r x e o = rw o at (sym e)

pub refused : {S : Type 0} (why : Refusal) (t : S) (r : Result ℕ Refusal) (x : Result (ℕ × S) Refusal) → stepped r t ≡ x → r ≡ Err why → x ≡ Err why
refused why t r x e o = rw o at (sym e)
