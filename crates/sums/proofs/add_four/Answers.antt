-- `sums::add_four` meets its contract: four terms of both columns. Assumes nothing.
use Rattle.sums.proofs.Sum.{four-terms}
use Rattle.sums.proofs.add_four.Goals as goal

pub returns-clause-x_after : goal.returns-clause-x_after
returns-clause-x_after c = let rows = c.requires.terms_pre.rows in search four-terms

pub returns-clause-y_after : goal.returns-clause-y_after
returns-clause-y_after c = let rows = c.requires.terms_pre.rows in search four-terms
