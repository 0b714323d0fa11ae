-- `text::Text::push_decimal`, which calls itself at n / 10: the measure is n. Assumes nothing.
use Rattle.text.proofs.Text.+push_decimal.Given as goal

abbrev pub decreases-push_decimal : goal.decreases-push_decimal
decreases-push_decimal g l = l.n
