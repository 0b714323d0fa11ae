-- What `exchange::exchange_rows` owes. Assumes nothing.
use native.Mathlib.Nat.{mul-le-mul_right}
use native.Mathlib.Omega.{arith}
use Rattle.exchange.proofs.Parts.{rows_none, rows_step}
use borrow.Author.Rules.{rules}
use Rattle.exchange.proofs.exchange_rows.Goals as goal

pub loop-j-init : goal.loop-j-init
loop-j-init c = (omega arith, mul-le-mul_right _ (omega arith), omega arith, search rows_none)

pub loop-j-preserved : goal.loop-j-preserved
loop-j-preserved c = (omega arith, mul-le-mul_right _ (omega arith), search rules, search rows_step)
