-- `sums::both_sums` meets its contract: the fours of both columns, then the ones of each. Assumes nothing.
use Rattle.sums.proofs.Sum.{sums-whole}
use Rattle.sums.proofs.both_sums.Goals as goal

pub returns-clause-x_after : goal.returns-clause-x_after
returns-clause-x_after c = search sums-whole

pub returns-clause-y_after : goal.returns-clause-y_after
returns-clause-y_after c = search sums-whole
