-- `scan::first_not_finite` meets its contract: where every number is known to be finite there is nothing to stop at, else the scan by columns tells.
-- Assumes nothing.
use Rattle.scan.proofs.Finite.{panel-sound}
use borrow.Author.Rules.{rules}
use Rattle.scan.proofs.first_not_finite.Goals as goal

pub returns-then-known_finite : goal.returns-then-known_finite
returns-then-known_finite c = search (rules, panel-sound)
