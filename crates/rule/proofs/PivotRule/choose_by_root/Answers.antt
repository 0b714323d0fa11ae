-- `rule::PivotRule::choose_by_root` meets its contract: each return is one way through the tests. Assumes nothing.
use Rattle.rule.proofs.Ways.{way-zero, way-own, way-rest}
use borrow.Author.Rules.{rules}
use Rattle.rule.proofs.PivotRule.choose_by_root.Goals as goal

pub returns-then-maximum : goal.returns-then-maximum
returns-then-maximum c = search (rules, way-zero)

pub returns-then-own-threshold : goal.returns-then-own-threshold
returns-then-own-threshold c = search (rules, way-own)

pub returns : goal.returns
returns c = search (rules, way-rest)
