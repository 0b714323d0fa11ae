-- `several::numbers_at` meets its contract. The invariant: the numbers before v are read. Assumes nothing.
use Rattle.std.proofs.Common.{◌≡◌, ℕ, ◌+◌, ◌<◌, length}
use Rattle.model.specs.Matrix.{vec, naturals}
use Rattle.several.proofs.numbers_at.Given as goal

abbrev pub invariant-loop-v : goal.invariant-loop-v
invariant-loop-v g l =
    (length l.s ≡ g.row.R) × ((w : ℕ) → w < l.v → vec l.s w ≡ vec l.x (naturals l.from w + l.i))
