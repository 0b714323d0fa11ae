-- What `text::Text::push_decimal` owes: one digit; or the front, then the last digit. Assumes nothing.
use Rattle.std.proofs.Common.{ℕ, arith, length-append}
use Rattle.text.proofs.Laws.{decimal-one, decimal-last, decimal-front}
use Rattle.text.proofs.Text.+push_decimal.Goals as goal

pub push-requires-else-n-lt10 : goal.push-requires-else-n-lt10
push-requires-else-n-lt10 g t c = omega (arith, decimal-front _ c.args.n c.ranges.n.fits c.push_decimal.ensures.writes)

pub returns-then-n-lt10-clause-writes : goal.returns-then-n-lt10-clause-writes
returns-then-n-lt10-clause-writes g t c = decimal-one _ c.args.n c.if-n-lt10.true c.digit.ensures c.push.ensures

pub returns-else-n-lt10-clause-writes : goal.returns-else-n-lt10-clause-writes
returns-else-n-lt10-clause-writes g t c =
    decimal-last _ _ c.args.n c.if-n-lt10.false c.push_decimal.ensures.writes c.digit-else-n-lt10.ensures c.push-else-n-lt10.ensures

pub returns-else-n-lt10-clause-upper_bound : goal.returns-else-n-lt10-clause-upper_bound
returns-else-n-lt10-clause-upper_bound g t c =
    rw c.push-else-n-lt10.ensures (omega (arith, length-append {A = ℕ}, decimal-front _ c.args.n c.ranges.n.fits c.push_decimal.ensures.writes))
