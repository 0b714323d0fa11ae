-- `text::Text::push_digits`, which calls itself at count - 1: the measure is count. Assumes nothing.
use Rattle.text.proofs.Text.+push_digits.Given as goal

abbrev pub decreases-push_digits : goal.decreases-push_digits
decreases-push_digits g l = l.count
