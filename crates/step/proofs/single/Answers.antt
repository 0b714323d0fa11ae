-- `step::single` meets its contract. Assumes nothing.
use Rattle.step.proofs.Laws.{row_in, single-stop, single-took}
use Rattle.step.proofs.single.Goals as goal

pub get-own-requires : goal.get-own-requires
get-own-requires c = search row_in

pub returns-in_default : goal.returns-in_default
returns-in_default c = search single-stop

pub returns : goal.returns
returns c = single-took _ _ _ _ _ _ _ _ _ _ _ _ c.get-own.ensures c.settle_one.ensures c.in-Some.is
    c.exchange_if.ensures c.head_one.ensures.rows c.head_one.ensures.kept
