-- `soundness::head_finite` meets its contract: a panel that is known to be finite has no other column. Assumes nothing.
use Rattle.soundness.proofs.Result.{column-known}
use Rattle.soundness.proofs.head_finite.Goals as goal

pub returns-then-s : goal.returns-then-s
returns-then-s c = column-known _ _ _ _ _ _ c.args.s.shape c.args.s.known c.if-s.true c.requires
