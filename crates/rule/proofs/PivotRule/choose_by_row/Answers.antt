-- `rule::PivotRule::choose_by_row` meets its contract: each return is one way through the tests of row imax. Assumes nothing.
use Rattle.rule.proofs.Ways.{way-row, way-other, way_block}
use borrow.Author.Rules.{rules}
use Rattle.rule.proofs.PivotRule.choose_by_row.Goals as goal

pub returns-then-own-threshold : goal.returns-then-own-threshold
returns-then-own-threshold c = search (rules, way-row)

pub returns-then-magnitude-threshold : goal.returns-then-magnitude-threshold
returns-then-magnitude-threshold c = rw c.with_row-then-magnitude-threshold.ensures
    (way-other _ _ _ _ _ _ _ _ _ c.threshold.ensures c.row_greatest-row.ensures.value c.root_of-rowmax.ensures _ _ _
    c.get.ensures c.magnitude.ensures c.threshold-2.ensures c.if-own-threshold.false c.if-magnitude-threshold.true)

pub returns-else-magnitude-threshold : goal.returns-else-magnitude-threshold
returns-else-magnitude-threshold c = rw c.with_row-else-magnitude-threshold.ensures
    (way_block _ _ _ _ _ _ _ _ _ c.threshold.ensures c.row_greatest-row.ensures.value c.root_of-rowmax.ensures _ _ _
    c.get.ensures c.magnitude.ensures c.threshold-2.ensures c.if-own-threshold.false c.if-magnitude-threshold.false)
