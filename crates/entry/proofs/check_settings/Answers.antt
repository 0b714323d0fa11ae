-- `entry::check_settings` meets its contract: each return is the definition at the tests that led there. Assumes nothing.
use Rattle.entry.proofs.Laws.{settings-shape, settings-width, settings-length, settings-mode}
use Rattle.entry.proofs.check_settings.Goals as goal

pub returns-then-not-shape_sound : goal.returns-then-not-shape_sound
returns-then-not-shape_sound c = search settings-shape

pub returns-then-not-c : goal.returns-then-not-c
returns-then-not-c c = search settings-width

pub returns-then-not-lengths_sound : goal.returns-then-not-lengths_sound
returns-then-not-lengths_sound c = search settings-length

pub returns : goal.returns
returns c = search settings-mode
