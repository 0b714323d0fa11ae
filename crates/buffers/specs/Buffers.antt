-- The buffers of a factor call before its first panel and after a refusal. From docs/SCOPE.md, "The factor call" and "Refusals".
-- Definitions only. Assumes nothing.
use Rattle.std.specs.Prelude.{List, ℕ, length, replicate, Float}
use Rattle.model.specs.Scalar.{zero_f}
use Rattle.model.specs.Matrix.{tabulate}
use Rattle.model.specs.Factor.{Buffers}

-- the ten buffers as one value
abbrev pub buffers_of : (panel d sub : List Float) (blocks lifts : List ℕ) (amounts : List Float) (tests order marks : List ℕ) (work : List Float) → Buffers
buffers_of panel d sub blocks lifts amounts tests order marks work = record {
  panel = panel;
  d = d;
  sub = sub;
  blocks = blocks;
  lifts = lifts;
  amounts = amounts;
  tests = tests;
  order = order;
  marks = marks;
  work = work;
}

-- 0, 1, 2, ..: every row in its place
unfoldable pub in_order : ℕ → List ℕ
in_order n = tabulate n (λ i. i)

-- before the first panel: the panel is the input, nothing is eliminated or lifted, no test has decided, every row is in its place; the marks and the working
-- buffer stay
abbrev pub begun_of : List Float → Buffers → Buffers
begun_of given b = record {
  panel = given;
  d = replicate (length b.d) zero_f;
  sub = replicate (length b.sub) zero_f;
  blocks = replicate (length b.blocks) 0;
  lifts = replicate (length b.lifts) 0;
  amounts = replicate (length b.amounts) zero_f;
  tests = replicate (length b.tests) 0;
  order = in_order (length b.order);
  marks = b.marks;
  work = b.work;
}
