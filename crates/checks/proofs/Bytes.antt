-- The check of the block bytes is a scan for the first that is not sound. Assumes nothing.
use mathlib.Core.Path.{◌≡◌, sym, ◌∙◌}
use mathlib.Core.List.{List}
use Prim.Native.Nat.{ℕ, ◌-◌}
use lib.ListN.{length}
use Rattle.model.specs.Matrix.{naturals}
use Rattle.model.specs.Inertia.{byte_sound, check_bytes}
use Rattle.model.specs.Assembly.{first_not}
use Rattle.model.proofs.Bytes.{byte_at, bytes-first}
use Rattle.checks.proofs.First.{first-none}

pub bytes-scan : (xs : List ℕ) → first_not (byte_sound (naturals xs) (length xs)) byte_at (length xs - 0) 0 ≡ check_bytes xs
bytes-scan xs = first-none (byte_sound (naturals xs) (length xs)) byte_at (length xs) ∙ sym (bytes-first (naturals xs) (length xs) (length xs) 0)
