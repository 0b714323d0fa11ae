-- `rule::PivotRule::choose` meets its contract: the own diagonal's test is told without the root, or all of them by it. Assumes nothing.
use Rattle.rule.proofs.Ways.{chosen, unsigned-both, way-reached}
use borrow.Author.Rules.{rules}
use Rattle.rule.proofs.PivotRule.choose.Goals as goal

pub reaches-requires : goal.reaches-requires
reaches-requires c = search (rules, unsigned-both)

pub returns-then-reaches : goal.returns-then-reaches
returns-then-reaches c = let h = chosen _ _ _ _ (search rules) (search (rules, way-reached, c.reaches.ensures c.if-reaches.true)) in
    record { value = h.0; chosen_within = h.1 }

pub returns-else-reaches : goal.returns-else-reaches
returns-else-reaches c = let h = chosen _ _ _ _ (search rules) c.choose_by_root.ensures in
    record { value = h.0; chosen_within = h.1 }
