-- What `inertia::tally` owes: room for the next pivot, one pivot or block more, and the end. Assumes nothing.
use Rattle.inertia.proofs.Running.{pivot-pre, past-within, past-less, total-step, tally-step, tally-end}
use borrow.Author.Rules.{rules}
use Rattle.inertia.proofs.tally.Goals as goal

pub diagonal_at-requires : goal.diagonal_at-requires
diagonal_at-requires c = search (rules, pivot-pre)

pub loop-k-smaller : goal.loop-k-smaller
loop-k-smaller c = search past-less

pub loop-k-preserved : goal.loop-k-preserved
loop-k-preserved c = (search (rules, past-within), search total-step, search tally-step)

pub returns : goal.returns
returns c = search tally-end
