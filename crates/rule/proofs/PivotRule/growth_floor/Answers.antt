-- `rule::PivotRule::growth_floor` meets its contract: GROWTH_EPS is the growth constant. Assumes nothing.
use Rattle.rule.proofs.Laws.{growth-is}
use Rattle.rule.proofs.PivotRule.growth_floor.Goals as goal

pub returns : goal.returns
returns c = rw (c.scale-s.ensures, growth-is)
