-- `inertia::inertia_check` meets its contract: the definition by its test, and the scan of the bytes past it. Assumes nothing.
use Rattle.model.specs.Inertia.{inertia_check}
use Rattle.inertia.proofs.inertia_check.Goals as goal

pub returns-then-not-x-n : goal.returns-then-not-x-n
unfolding inertia_check
returns-then-not-x-n c = rw c.if-not-x-n.true

pub returns : goal.returns
unfolding inertia_check
returns c = rw c.if-not-x-n.false c.first_bad_byte.ensures
