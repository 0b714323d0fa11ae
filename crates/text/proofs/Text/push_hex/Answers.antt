-- `text::Text::push_hex` meets its contract: sixteen digits. Assumes nothing.
use Rattle.text.proofs.Laws.{hex-end}
use Rattle.text.proofs.Text.push_hex.Goals as goal

pub returns-clause-value : goal.returns-clause-value
returns-clause-value g c = hex-end _ 16 c.args.pattern c.push_digits.ensures
