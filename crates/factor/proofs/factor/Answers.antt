-- `factor::factor` meets its contract: the entry checks refuse and nothing is written, or the run decides. Assumes nothing.
use mathlib.Core.Path.{sym}
use Rattle.std.proofs.lemmas.Result.{err_from_is_err_and}
use Rattle.model.specs.Factor.{lent_in}
use Rattle.entry.proofs.Laws.{entry-refused, entry-sound}
use Rattle.factor.proofs.factor.Goals as goal

pub returns-in_err-check-clause-value : goal.returns-in_err-check-clause-value
returns-in_err-check-clause-value c = let p = err_from_is_err_and c.from_residual.result c.from_residual.ensures.1 in
    rw (p.1, p.2) (sym (entry-refused c.args.c c.args.input.now (lent_in c.args.b.now) _ c.check.ensures _ c.in_err-check.was))

pub run-requires : goal.run-requires
run-requires c = entry-sound c.args.c c.args.input.now (lent_in c.args.b.now) _ c.check.ensures c.in_ok-check.was
