-- What `little_endian::numbers_at` owes: every place holds its number at the end. Assumes nothing.
use Rattle.little_endian.proofs.Laws.{numbers-end}
use borrow.Author.Rules.{rules}
use Rattle.little_endian.proofs.numbers_at.Goals as goal

pub returns : goal.returns
returns c = search (rules, numbers-end)
