-- `entry::check_mode` meets its contract: each return is the definition at the tests that led there. Assumes nothing.
use Rattle.entry.proofs.Laws.{mode-fail, mode-floor, mode-limit, mode-sound}
use Rattle.entry.proofs.check_mode.Goals as goal

pub returns-in_default : goal.returns-in_default
returns-in_default c = search mode-fail

pub returns-then-not-is_finite-floor : goal.returns-then-not-is_finite-floor
returns-then-not-is_finite-floor c = search mode-floor

pub returns-then-not-limit : goal.returns-then-not-limit
returns-then-not-limit c = search mode-limit

pub returns : goal.returns
returns c = search mode-sound
