-- Two calls of `factor` past the entry checks that agree on the head agree on all that is read off it, and equal tail rows get equal factor rows and
-- marks: the law of the definitions with the contract of `factor` put into it. Assumes nothing.
use mathlib.Core.Path.{◌≡◌, sym, ◌∙◌, ap}
use Prim.Native.Nat.{ℕ, ◌-◌}
use Rattle.model.specs.Matrix.{view, naturals}
use Rattle.model.specs.Factor.{Outcome, factor_of}
use Rattle.model.specs.Independence.{Call, SameHead, SameTailRow}
use Rattle.model.proofs.Independence.{tail-rows-steer-nothing}
use Rattle.factor.specs.Independence.{Made, SameHeadLeft, SameTailRowLeft, FactorSteeredByHeadAlone}
use Rattle.judge.specs.Judge.{outcome_of}

module _ (x y : Call) (m : Made x) (n : Made y) where
  -- a part of what the two calls left, from the definitions' outcomes
  left-same : {A : Type 0} (f g : Outcome → A) → f (factor_of x.settings x.input x.lent) ≡ g (factor_of y.settings y.input y.lent)
      → f (outcome_of m.answer m.left) ≡ g (outcome_of n.answer n.left)
  left-same f g w = ap f m.contract ∙ w ∙ sym (ap g n.contract)

  -- a number of the panels that they left
  entry-same : (i j k : ℕ)
      → view x.settings.nrow (factor_of x.settings x.input x.lent).buffers.panel i j
      ≡ view y.settings.nrow (factor_of y.settings y.input y.lent).buffers.panel k j
      → view x.settings.nrow m.left.panel i j ≡ view y.settings.nrow n.left.panel k j
  entry-same i j k w = left-same (λ o. view x.settings.nrow o.buffers.panel i j) (λ o. view y.settings.nrow o.buffers.panel k j) w

  head-left : SameHead x y → SameHeadLeft x y m n
  head-left s = record {
    answer = left-same (λ o. o.answer) (λ o. o.answer) s.answer;
    d = left-same (λ o. o.buffers.d) (λ o. o.buffers.d) s.d;
    sub = left-same (λ o. o.buffers.sub) (λ o. o.buffers.sub) s.sub;
    blocks = left-same (λ o. o.buffers.blocks) (λ o. o.buffers.blocks) s.blocks;
    lifts = left-same (λ o. o.buffers.lifts) (λ o. o.buffers.lifts) s.lifts;
    amounts = left-same (λ o. o.buffers.amounts) (λ o. o.buffers.amounts) s.amounts;
    tests = left-same (λ o. o.buffers.tests) (λ o. o.buffers.tests) s.tests;
    order = λ k h. left-same (λ o. naturals o.buffers.order k) (λ o. naturals o.buffers.order k) (s.order k h);
    lower = λ i j h l. entry-same i j i (s.lower i j h l);
  }

  tail-left : (p q : ℕ) → SameTailRow x y p q → SameTailRowLeft x y m n p q
  tail-left p q s = record {
    row = λ j l. entry-same p j q (s.row j l);
    mark = left-same (λ o. naturals o.buffers.marks (p - x.settings.ncol)) (λ o. naturals o.buffers.marks (q - y.settings.ncol)) s.mark;
  }

pub factor-steered-by-head-alone : FactorSteeredByHeadAlone
factor-steered-by-head-alone x y ex ey a m n =
    let w = tail-rows-steer-nothing x y ex ey a in
    (head-left x y m n w.0, λ p q i. tail-left x y m n p q (w.1 p q i))
