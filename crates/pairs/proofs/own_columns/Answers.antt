-- `pairs::own_columns` meets its contract, for a 1x1 and for a block. Assumes nothing.
use Rattle.pairs.proofs.Calls.{rows-one, rows-two, fits-two, own-one, own-two}
use borrow.Author.Rules.{rules}
use Rattle.pairs.proofs.own_columns.Goals as goal

pub scale-requires : goal.scale-requires
scale-requires c = search (rules, rows-one)

pub combine-requires : goal.combine-requires
combine-requires c = record { rows_pre = search rows-two; fits = search fits-two }

pub returns-in-One : goal.returns-in-One
returns-in-One c = search (rules, own-one, own-two)

pub returns-in-Two : goal.returns-in-Two
returns-in-Two c = search (rules, own-one, own-two)
