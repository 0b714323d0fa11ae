-- `square_root::whole_root` meets its contract: the line's square is within a fortieth of d, the first step's within one part in 6000, the second's within
-- 2 ^ 27 - 1, and no step's number is below the whole root. Assumes nothing.
use native.Mathlib.Omega.{arith}
use Rattle.square_root.proofs.Steps.{second-pre, heron-end, whole-right, less-square, whole-less}
use borrow.Author.Rules.{rules}
use Rattle.square_root.proofs.whole_root.Goals as goal

pub heron-q-requires : goal.heron-q-requires
heron-q-requires c = search (rules, second-pre)

pub overflow_mul-q : goal.overflow_mul-q
overflow_mul-q c = omega (arith, heron-end _ _ _ c.requires c.line.ensures c.heron.ensures _ c.heron-q.ensures)

pub returns-then-q-d : goal.returns-then-q-d
returns-then-q-d c = whole-right _ _ (heron-end _ _ _ c.requires c.line.ensures c.heron.ensures _ c.heron-q.ensures) c.if-q-d.true

pub overflow_mul-result-2 : goal.overflow_mul-result-2
overflow_mul-result-2 c = omega (arith, less-square _ _ (heron-end _ _ _ c.requires c.line.ensures c.heron.ensures _ c.heron-q.ensures))

pub overflow_sub-result-2 : goal.overflow_sub-result-2
overflow_sub-result-2 c = less-square _ _ (heron-end _ _ _ c.requires c.line.ensures c.heron.ensures _ c.heron-q.ensures)

pub returns : goal.returns
returns c = whole-less _ _ (heron-end _ _ _ c.requires c.line.ensures c.heron.ensures _ c.heron-q.ensures) c.if-q-d.false
