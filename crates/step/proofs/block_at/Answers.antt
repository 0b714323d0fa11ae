-- `step::block_at` meets its contract. Assumes nothing.
use native.Mathlib.Omega.{arith}
use Rattle.step.proofs.Laws.{corner-in}
use Rattle.step.proofs.block_at.Goals as goal

pub get-d11-requires : goal.get-d11-requires
get-d11-requires c = corner-in _ _ _ _ _ _ c.requires (omega arith) (omega arith)

pub get-d21-requires : goal.get-d21-requires
get-d21-requires c = corner-in _ _ _ _ _ _ c.requires (omega arith) (omega arith)

pub get-d22-requires : goal.get-d22-requires
get-d22-requires c = corner-in _ _ _ _ _ _ c.requires (omega arith) (omega arith)
