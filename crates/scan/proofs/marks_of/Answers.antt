-- What `scan::marks_of` owes. Assumes nothing.
use Rattle.scan.proofs.Marks.{tail_none, tail-clean, tail_step}
use borrow.Author.Rules.{rules}
use Rattle.scan.proofs.marks_of.Goals as goal

pub returns-then-s : goal.returns-then-s
returns-then-s c = tail-clean _ _ _ _ _ _ c.requires (c.fill.ensures.after (λ y e. e)) c.args.s.known c.if-s.true

pub loop-j-init : goal.loop-j-init
loop-j-init c = (search rules, tail_none _ _ _ _ _ c.requires (c.fill.ensures.after (λ y e. e)))

pub loop-j-preserved : goal.loop-j-preserved
loop-j-preserved c = search (rules, tail_step)
