-- What `text::Text::push_digits` owes: no digit; or the front, then the last digit. Assumes nothing.
use Rattle.std.proofs.Common.{◌-◌, ◌/◌, arith}
use Rattle.text.proofs.Laws.{hex-none, hex-last, hex-end}
use Rattle.text.proofs.Text.+push_digits.Goals as goal

pub push-requires : goal.push-requires
push-requires g t c = omega (arith, hex-end _ (c.args.count - 1) (c.args.n / 16) c.push_digits.ensures)

pub returns-then-count-gt0 : goal.returns-then-count-gt0
returns-then-count-gt0 g t c = hex-last _ _ c.args.count c.args.n c.if-count-gt0.true c.push_digits.ensures c.digit.ensures c.push.ensures

pub returns-else-count-gt0 : goal.returns-else-count-gt0
returns-else-count-gt0 g t c = hex-none _ c.args.count c.args.n c.if-count-gt0.false
