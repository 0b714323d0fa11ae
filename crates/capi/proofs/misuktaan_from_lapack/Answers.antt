-- `capi::misuktaan_from_lapack` meets its contract: the numbers of the call's answer, beside what it left; number 0 is acceptance. Assumes nothing.
use borrow.Author.Rules.{rules}
use Rattle.capi.proofs.Laws.{order-left, by-number}
use Rattle.capi.proofs.misuktaan_from_lapack.Goals as goal

pub returns-clause-left : goal.returns-clause-left
returns-clause-left c = search (rules, order-left)

pub returns-clause-again : goal.returns-clause-again
returns-clause-again c h = c.from_lapack.ensures.again (by-number _ _ c.into.ensures h)
