-- A refusal is no acceptance: not as what a call says, and not by its number, which is never 0. Assumes nothing.
use mathlib.Core.Path.{◌≡◌}
use Prim.Native.Nat.{ℕ, ◌<◌}
use native.Mathlib.Omega.{arith}
use Rattle.model.specs.Answer.{Said, accepted, turned_away, numbered}
use Rattle.model.specs.declared.Refusal.{Refusal}
use Rattle.model.specs.declared.Refusal.TheVariants.{Shape, Width, Length, Floor, Limit, Input, ZeroColumn, Rounds, NotFinite, AssemblyLength}
use Rattle.model.specs.declared.Refusal.TheVariants.{AssemblyPlace, AssemblyNumber, UpdateLength, TargetRows, DescendantRows, BlockByte, AbsentRow}
use Rattle.model.specs.declared.Refusal.TheVariants.{DescendantNumber, InertiaLength, ZeroPivot, LowBlock, BufferLength, OrderPlace}
use Rattle.model.specs.declared.Refusal.TheVariants.{RightSide, BlockRow, ListNumber, ListPair}

pub refused-not : {A : Type 0} (why : Refusal) (x : A) (a : Said A) → a ≡ turned_away why → a ≡ accepted x → ⊥
refused-not why x a e f = let w : ◌≡◌ {A = ℕ} 0 1 = cc in omega arith

pub numbered-above : (r : Refusal) → 0 < (numbered r).0
numbered-above Shape = omega arith
numbered-above Width = omega arith
numbered-above Length = omega arith
numbered-above Floor = omega arith
numbered-above Limit = omega arith
numbered-above (Input column row) = omega arith
numbered-above (ZeroColumn at) = omega arith
numbered-above (Rounds at) = omega arith
numbered-above (NotFinite at) = omega arith
numbered-above AssemblyLength = omega arith
numbered-above (AssemblyPlace at) = omega arith
numbered-above (AssemblyNumber at) = omega arith
numbered-above UpdateLength = omega arith
numbered-above TargetRows = omega arith
numbered-above DescendantRows = omega arith
numbered-above (BlockByte at) = omega arith
numbered-above (AbsentRow at) = omega arith
numbered-above (DescendantNumber at) = omega arith
numbered-above InertiaLength = omega arith
numbered-above (ZeroPivot at) = omega arith
numbered-above (LowBlock at) = omega arith
numbered-above BufferLength = omega arith
numbered-above (OrderPlace at) = omega arith
numbered-above (RightSide at) = omega arith
numbered-above (BlockRow at) = omega arith
numbered-above (ListNumber at) = omega arith
numbered-above (ListPair at) = omega arith
