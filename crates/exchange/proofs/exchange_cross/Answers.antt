-- What `exchange::exchange_cross` owes. Assumes nothing.
use native.Mathlib.Nat.{mul-le-mul_right}
use native.Mathlib.Omega.{arith}
use Rattle.exchange.proofs.Parts.{cross-none, cross-step}
use borrow.Author.Rules.{rules}
use Rattle.exchange.proofs.exchange_cross.Goals as goal

pub loop-i-init : goal.loop-i-init
loop-i-init c = (omega arith, omega arith, mul-le-mul_right _ (omega arith), omega arith, search cross-none)

pub loop-i-preserved : goal.loop-i-preserved
loop-i-preserved c = (omega arith, omega arith, mul-le-mul_right _ (omega arith), search rules, search cross-step)
