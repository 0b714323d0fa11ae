-- `update_checks::lengths_sound` meets its contract: the definition by its tests. Assumes nothing.
use Rattle.update_checks.proofs.Listed.{lengths-shape, lengths-sizes, lengths-rest}
use Rattle.update_checks.proofs.lengths_sound.Goals as goal

pub returns-then-not-shape_sound : goal.returns-then-not-shape_sound
returns-then-not-shape_sound c = search lengths-shape

pub returns-then-not-nk-mk : goal.returns-then-not-nk-mk
returns-then-not-nk-mk c = search lengths-sizes

pub returns : goal.returns
returns c = lengths-rest _ _ _ _ c.shape_sound.ensures c.if-not-shape_sound.false c.if-not-nk-mk.false
