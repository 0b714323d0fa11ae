-- `judge::judge` meets its contract: refusal 9 leaves zeros, else the call is accepted. Assumes nothing.
use Rattle.model.specs.Factor.{lent_in}
use Rattle.judge.proofs.Laws.{result-pre, judge-refused, judge-accepted}
use Rattle.judge.proofs.judge.Goals as goal

pub first_unsound-requires : goal.first_unsound-requires
first_unsound-requires c = rw c.new-s.ensures.sizes.0 (result-pre _ _ _ _ _ _ _ c.requires)

pub returns-in-Err-clause-judged : goal.returns-in-Err-clause-judged
returns-in-Err-clause-judged c =
    let s = c.new-s in
    judge-refused c.args.c.nrow c.args.c.ncol c.args.rounds (lent_in c.args.b.now) _ _ _ s.ensures.same s.ensures.sizes _ c.first_unsound.ensures _ _
    c.in-Err.is c.zero_all.ensures.zeros

pub returns-clause-judged : goal.returns-clause-judged
returns-clause-judged c =
    let s = c.new-s in
    judge-accepted c.args.c.nrow c.args.c.ncol c.args.rounds (lent_in c.args.b.now) _ _ _ s.ensures.same s.ensures.sizes _ c.first_unsound.ensures _ _ _
    c.in_default.is c.marks_of.ensures (c.fill.ensures.after (λ y e. e)) c.tally-inertia.ensures
