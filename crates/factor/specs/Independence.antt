-- Demand 3 about what two calls of `factor` leave behind: the statement of model/specs/Independence.antt with the contract of `factor` put into it,
-- so that nobody has to connect the two by hand. proofs/Independent.antt proves `FactorSteeredByHeadAlone`. Definitions only. Assumes nothing.
use Rattle.std.specs.Prelude.{◌≡◌, ℕ, ◌-◌, ◌≤◌, ◌<◌}
use Rattle.model.specs.Matrix.{view, naturals}
use Rattle.model.specs.Factor.{Buffers, factor_of}
use Rattle.model.specs.Answer.{Factored, factored_says}
use Rattle.model.specs.Independence.{Call, PastEntry, Alike, SameInput}
use Rattle.judge.specs.Judge.{outcome_of}

-- a call that was made: what `factor` answered, what it left in the ten buffers, and its contract
pub record Made (x : Call) : Type 0 where
  pub answer : Factored
  pub left : Buffers
  pub contract : outcome_of answer left ≡ factor_of x.settings x.input x.lent

-- the same refusal and place, or the same rounds and counts; the same pivots, lifts and test numbers, order of the head and lower head
pub record SameHeadLeft (x y : Call) (m : Made x) (n : Made y) : Type 0 where
  pub answer : factored_says m.answer ≡ factored_says n.answer
  pub d : m.left.d ≡ n.left.d
  pub sub : m.left.sub ≡ n.left.sub
  pub blocks : m.left.blocks ≡ n.left.blocks
  pub lifts : m.left.lifts ≡ n.left.lifts
  pub amounts : m.left.amounts ≡ n.left.amounts
  pub tests : m.left.tests ≡ n.left.tests
  pub order : (k : ℕ) → k < x.settings.ncol → naturals m.left.order k ≡ naturals n.left.order k
  pub lower : (i j : ℕ) → j ≤ i → i < x.settings.ncol → view x.settings.nrow m.left.panel i j ≡ view y.settings.nrow n.left.panel i j

-- the same factor row and the same mark of row p of the one and row q of the other
pub record SameTailRowLeft (x y : Call) (m : Made x) (n : Made y) (p q : ℕ) : Type 0 where
  pub row : (j : ℕ) → j < x.settings.ncol → view x.settings.nrow m.left.panel p j ≡ view y.settings.nrow n.left.panel q j
  pub mark : naturals m.left.marks (p - x.settings.ncol) ≡ naturals n.left.marks (q - y.settings.ncol)

abbrev pub FactorSteeredByHeadAlone : Type 0
FactorSteeredByHeadAlone =
    (x y : Call) → PastEntry x → PastEntry y → Alike x y → (m : Made x) (n : Made y)
    → SameHeadLeft x y m n × ((p q : ℕ) → SameInput x y p q → SameTailRowLeft x y m n p q)
