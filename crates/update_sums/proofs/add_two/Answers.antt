-- What `update_sums::add_two` owes. Assumes nothing.
use mathlib.Core.Path.{sym}
use Rattle.kernels.proofs.Laws.{with_part-none}
use Rattle.update_sums.proofs.Numbers.{two-step, two-end}
use borrow.Author.Rules.{rules}
use Rattle.update_sums.proofs.add_two.Goals as goal

pub loop-i-init : goal.loop-i-init
loop-i-init c = (search rules, search rules, sym (with_part-none _ 0 _))

pub loop-i-preserved : goal.loop-i-preserved
loop-i-preserved c = (search rules, search rules, search (rules, two-step))

pub returns : goal.returns
returns c = search (rules, two-end)
