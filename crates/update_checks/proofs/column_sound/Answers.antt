-- `update_checks::column_sound` meets its contract: the definition by its tests. Assumes nothing.
use Rattle.model.specs.Matrix.{vec, naturals}
use Rattle.update_checks.proofs.Listed.{column-d, column-sub, column-rest}
use Rattle.update_checks.proofs.column_sound.Goals as goal

pub returns-then-not-is_finite : goal.returns-then-not-is_finite
unfolding vec
returns-then-not-is_finite c = search column-d

pub returns-then-k-c : goal.returns-then-k-c
unfolding vec naturals
returns-then-k-c c = search column-sub

pub returns : goal.returns
unfolding vec naturals
returns c = search column-rest
