-- `capi::misuktaan_solve` meets its contract: the numbers of the solve call's answer, beside the vector as it left it. Assumes nothing.
use Rattle.capi.proofs.Laws.{vector-left}
use borrow.Author.Rules.{rules}
use Rattle.capi.proofs.misuktaan_solve.Goals as goal

pub returns : goal.returns
returns c = search (rules, vector-left)
