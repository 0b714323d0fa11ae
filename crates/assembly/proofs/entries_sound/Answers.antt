-- `assembly::entries_sound` meets its contract: the definition by its tests. Assumes nothing.
use Rattle.model.specs.Assembly.{entries_sound}
use Rattle.assembly.proofs.entries_sound.Goals as goal

pub returns-then-not-shape_sound : goal.returns-then-not-shape_sound
unfolding entries_sound
returns-then-not-shape_sound c = rw (← c.shape_sound.ensures, c.if-not-shape_sound.true)

pub returns : goal.returns
unfolding entries_sound
returns c = rw (← c.shape_sound.ensures, c.if-not-shape_sound.false)
