-- `little_endian::u32_at` meets its contract: four bytes, weighed. Assumes nothing.
use Rattle.little_endian.specs.LittleEndian.{le32}
use Rattle.little_endian.proofs.Laws.{le32-is}
use borrow.Author.Rules.{rules}
use Rattle.little_endian.proofs.u32_at.Goals as goal

-- unfolded, so that the two halves added up by hand pass too: u32_halves_overlap and u32_weight are in that form, and refused for their value alone
pub returns : goal.returns
unfolding le32
returns c = search (rules, le32-is)
