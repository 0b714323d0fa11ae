-- `factor::run` meets its contract: a run that stops leaves zeros and its refusal, one that ends is judged. Assumes nothing.
use mathlib.Core.Path.{◌∙◌}
use Rattle.factor.proofs.Judged.{stopped_call, judge-pre, judge-call}
use Rattle.factor.proofs.run.Goals as goal

pub judge-requires : goal.judge-requires
judge-requires c = judge-pre c.args.c c.args.input.now c.args.b.now c.requires c.eliminate.new.b _ c.in-Ok.ensures.eliminated c.in-Ok.ensures.same

pub returns-in-Ok-clause-value : goal.returns-in-Ok-clause-value
returns-in-Ok-clause-value c =
    c.judge.ensures.judged
    ∙ judge-call c.args.c c.args.input.now c.args.b.now c.requires c.eliminate.new.b _ c.in-Ok.ensures.eliminated c.in-Ok.ensures.same

pub returns-in-Err-clause-value : goal.returns-in-Err-clause-value
returns-in-Err-clause-value c =
    stopped_call c.args.c c.args.input.now c.args.b.now c.requires c.eliminate.new.b _ _ c.in-Err.ensures.eliminated c.in-Err.ensures.same c.zero_all.ensures.zeros
