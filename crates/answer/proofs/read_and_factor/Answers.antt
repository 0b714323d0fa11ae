-- `answer::read_and_factor` meets its contract: the numbers read are the panel that the stream asks to factor. Assumes nothing.
use Rattle.answer.proofs.Calls.{panel-there, sizes-pre, factor-printed}
use borrow.Author.Rules.{rules}
use Rattle.answer.proofs.read_and_factor.Goals as goal

pub numbers_at-requires : goal.numbers_at-requires
numbers_at-requires c = search (rules, panel-there)

pub with_buffers-requires-clause-sizes : goal.with_buffers-requires-clause-sizes
with_buffers-requires-clause-sizes c = sizes-pre _ _ c.requires.stream_value

pub returns : goal.returns
returns c = search (rules, factor-printed)
