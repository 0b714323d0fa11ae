-- `sums::begin_by_fours` meets its contract: zeros, then the fours of both columns. Assumes nothing.
use Rattle.sums.proofs.Sum.{fours-begun}
use Rattle.sums.proofs.begin_by_fours.Goals as goal

pub returns-clause-x_after : goal.returns-clause-x_after
returns-clause-x_after c = search fours-begun

pub returns-clause-y_after : goal.returns-clause-y_after
returns-clause-y_after c = search fours-begun
