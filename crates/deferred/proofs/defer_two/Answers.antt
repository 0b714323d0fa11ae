-- `deferred::defer_two` meets its contract: the sums of both, then each column less its own. Assumes nothing.
use Rattle.deferred.proofs.Columns.{one-lost, two-lost}
use Rattle.deferred.proofs.defer_two.Goals as goal

pub returns-then-at : goal.returns-then-at
returns-then-at c = search one-lost

pub returns : goal.returns
returns c = search two-lost
