-- What a factor call left, as the model's buffers, and the lines of its pivots and rows. Definitions only. Assumes nothing.
use Rattle.std.specs.Prelude.{[], List, ℕ}
use Rattle.model.specs.Factor.{Buffers}
use Rattle.lines.specs.Lines.{pivot_at, row_line}
use Rattle.lines.specs.declared.left.Left.{Left}
use Rattle.lines.specs.declared.left.Pivots.{Pivots}
use Rattle.lines.specs.declared.left.Rows.{Rows}

-- nothing of the working buffer is printed, so none is held
abbrev pub left_in : Left → Buffers
left_in x = record {
  panel = x.panel.now;
  d = x.d.now;
  sub = x.sub.now;
  blocks = x.blocks.now;
  lifts = x.lifts.now;
  amounts = x.amounts.now;
  tests = x.tests.now;
  order = x.order.now;
  marks = x.marks.now;
  work = [];
}

-- position k's line
abbrev pub pivot_in : Pivots → ℕ → List ℕ
pivot_in p = pivot_at p.d.now p.sub.now p.blocks.now p.lifts.now p.amounts.now p.tests.now

-- row i's line
abbrev pub row_in : Rows → ℕ → List ℕ
row_in r = row_line r.nrow r.ncol r.panel.now r.marks.now
