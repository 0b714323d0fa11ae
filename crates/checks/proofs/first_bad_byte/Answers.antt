-- What `checks::first_bad_byte` owes. Assumes nothing.
use Rattle.checks.proofs.First.{first_step, first-bad, first-end}
use Rattle.checks.proofs.Bytes.{bytes-scan}
use borrow.Author.Rules.{rules}
use Rattle.checks.proofs.first_bad_byte.Goals as goal

pub loop-k-init : goal.loop-k-init
loop-k-init c = search (rules, bytes-scan)

pub returns-then-not-byte_sound : goal.returns-then-not-byte_sound
returns-then-not-byte_sound c = search first-bad

pub loop-k-preserved : goal.loop-k-preserved
loop-k-preserved c = search first_step

pub returns : goal.returns
returns c = search first-end
