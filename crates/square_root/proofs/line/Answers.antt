-- `square_root::line` meets its contract: a line is farthest above the root at its octave's ends and farthest below between, and near enough at each.
-- Assumes nothing.
use Rattle.square_root.proofs.Steps.{first-octave, second-octave}
use borrow.Author.Rules.{rules}
use Rattle.square_root.proofs.line.Goals as goal

pub returns-then-d-lt9007199254740992 : goal.returns-then-d-lt9007199254740992
returns-then-d-lt9007199254740992 c = search (rules, first-octave)

pub returns-else-d-lt9007199254740992 : goal.returns-else-d-lt9007199254740992
returns-else-d-lt9007199254740992 c = search (rules, second-octave)
