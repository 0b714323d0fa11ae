-- `entry::check` meets its contract: a refusal of the settings is the answer, and else the scan's. Assumes nothing.
use Rattle.entry.proofs.Laws.{settings-panel}
use Rattle.entry.proofs.check.Goals as goal

pub first_not_finite-requires : goal.first_not_finite-requires
first_not_finite-requires c = settings-panel _ _ _ _ c.check_settings.ensures c.in_ok-check_settings.was c.requires
