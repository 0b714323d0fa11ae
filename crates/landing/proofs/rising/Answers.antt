-- `landing::rising` meets its contract: std's test of each row and the next is the definition's. Assumes nothing.
use lib.Dec.{ltb}
use borrow.Author.Rules.{rules}
use borrow.Author.Tests.{tests}
use Rattle.std.proofs.lemmas.List.Sorted.{answers_always}
use Rattle.landing.proofs.Order.{rising-says}
use Rattle.landing.proofs.rising.Goals as goal

pub returns : goal.returns
returns c = rising-says _ _ (c.is_sorted_by.ensures.cases ltb (answers_always _ _ _ (λ f a r g k. search (rules, tests))))
