-- `assembly::assemble` meets its contract: a check that refuses is the answer and nothing is written; past it the entries are added. Assumes nothing.
use mathlib.Core.Path.{sym}
use Rattle.std.proofs.lemmas.Result.{err_from_is_err_and}
use Rattle.assembly.proofs.Laws.{checked-entries, assembly-done, assembly-refuses}
use borrow.Author.Rules.{rules}
use Rattle.assembly.proofs.assemble.Goals as goal

pub returns-in_err-assembly_check : goal.returns-in_err-assembly_check
returns-in_err-assembly_check c =
    let p = err_from_is_err_and c.from_residual.result c.from_residual.ensures.1 in
    rw (p.1, p.2) (assembly-refuses _ _ _ _ _ c.assembly_check.ensures _ _ c.in_err-assembly_check.was (sym c.in_err-assembly_check.was))

pub add_entries-requires : goal.add_entries-requires
add_entries-requires c = checked-entries _ _ _ _ _ c.assembly_check.ensures c.in_ok-assembly_check.was

pub returns : goal.returns
returns c = assembly-done _ _ _ _ _ c.assembly_check.ensures _ c.in_ok-assembly_check.was (search rules) c.add_entries.ensures
