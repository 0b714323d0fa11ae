-- `step::block` meets its contract. Assumes nothing.
use Rattle.step.proofs.Laws.{two-pre, block-stop, block-rounds, block-took}
use borrow.Author.Rules.{rules}
use Rattle.step.proofs.block.Goals as goal

pub head_two-requires : goal.head_two-requires
head_two-requires c = two-pre _ _ _ _ _ _ c.requires (search rules)

pub returns-in-Err-Low : goal.returns-in-Err-Low
returns-in-Err-Low c = block-stop _ _ _ _ _ _ _ _ _ _ _ c.exchange_if.ensures c.block_at-own.ensures c.settle_two.ensures
    (rw c.in-Err-Low.field-0-is at c.in-Err-Low.is)

pub returns-in-Err-OutOfRounds : goal.returns-in-Err-OutOfRounds
returns-in-Err-OutOfRounds c = block-rounds _ _ _ _ _ _ _ _ _ _ _ c.exchange_if.ensures c.block_at-own.ensures c.settle_two.ensures
    (rw c.in-Err-OutOfRounds.field-0-is at c.in-Err-OutOfRounds.is)

pub returns : goal.returns
returns c = block-took _ _ _ _ _ _ _ _ _ _ _ _ _ c.exchange_if.ensures c.block_at-own.ensures
    c.settle_two.ensures c.in-Ok.is c.head_two.ensures.rows c.head_two.ensures.kept
