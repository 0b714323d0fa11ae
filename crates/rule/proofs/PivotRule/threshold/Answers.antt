-- `rule::PivotRule::threshold` meets its contract: ALPHA is alpha. Assumes nothing.
use Rattle.rule.proofs.Laws.{alpha-is}
use Rattle.rule.proofs.PivotRule.threshold.Goals as goal

pub returns : goal.returns
returns c = rw alpha-is
