-- `little_endian::u16_at` meets its contract: two bytes, weighed. Assumes nothing.
use Rattle.little_endian.specs.LittleEndian.{le16}
use Rattle.little_endian.proofs.Laws.{le16-is}
use borrow.Author.Rules.{rules}
use Rattle.little_endian.proofs.u16_at.Goals as goal

-- unfolded, so that the two bytes by hand pass too, as an array or added up: u16_place and u16_weight are in these forms, and refused for their value alone
pub returns : goal.returns
unfolding le16
returns c = search (rules, le16-is)
