-- `rule::PivotRule::root_of` meets its contract: the root is taken, or spared. Assumes nothing.
use denote.Floats.{passes}
use Rattle.rule.proofs.Squares.{root-spared}
use Rattle.rule.proofs.PivotRule.root_of.Goals as goal

pub returns-then-square-is_finite : goal.returns-then-square-is_finite
returns-then-square-is_finite c = root-spared _ _ _ _ (passes _ c.well_formed.1.0.1) c.requires c.is_finite.ensures c.if-square-is_finite.true c.magnitude.ensures
