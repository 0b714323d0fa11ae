-- `checks::first_bad_byte` meets its contract. The invariant: the scan from k on finds what the whole scan finds. Assumes nothing.
use mathlib.Core.Path.{◌≡◌}
use Prim.Native.Nat.{◌-◌}
use lib.ListN.{length}
use Rattle.model.specs.Matrix.{naturals}
use Rattle.model.specs.Assembly.{first_not}
use Rattle.model.specs.Inertia.{byte_sound, check_bytes}
use Rattle.model.proofs.Bytes.{byte_at}
use Rattle.checks.proofs.first_bad_byte.Given as goal

abbrev pub invariant-loop-k : goal.invariant-loop-k
invariant-loop-k l = first_not (byte_sound (naturals l.blocks) (length l.blocks)) byte_at (length l.blocks - l.k) l.k ≡ check_bytes l.blocks
