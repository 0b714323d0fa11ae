-- `little_endian::u64_at` meets its contract: eight bytes, weighed. Assumes nothing.
use Rattle.little_endian.specs.LittleEndian.{le64}
use Rattle.little_endian.proofs.Laws.{le64-is}
use borrow.Author.Rules.{rules}
use Rattle.little_endian.proofs.u64_at.Goals as goal

-- unfolded, so that the two halves added up by hand pass too: u64_halves_overlap and u64_weight are in that form, and refused for their value alone
pub returns : goal.returns
unfolding le64
returns c = search (rules, le64-is)
