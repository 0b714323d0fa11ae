-- `total::Summed::new` meets its contract: what the sum tells is what the panel is known for. Assumes nothing.
use Rattle.total.proofs.Finite.{sum-known}
use Rattle.total.proofs.Summed.new.Goals as goal

pub invariant_of-result : goal.invariant_of-result
invariant_of-result c = record { shape = c.requires; known = sum-known _ _ _ _ c.known_finite-finite.ensures }
