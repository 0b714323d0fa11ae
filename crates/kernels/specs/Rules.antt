-- What the slice kernels make of place a from the numbers at place a of their operands, each operation rounded, in the order written.
-- A kernel puts its rule at n places. Definitions only. Assumes nothing.
use Rattle.std.specs.Prelude.{ℕ, zero, suc, ◌+◌, ◌-◌, ◌<◌, ◌≤◌, Float}
use Rattle.model.specs.Scalar.{◌⊕◌, ◌⊖◌, ◌⊗◌, zero_f}
use Rattle.model.specs.Matrix.{Row}

-- what stands q places before, and q places on
unfoldable pub behind : ℕ → Row → Row
behind q f = λ a. f (a - q)

unfoldable pub ahead : ℕ → Row → Row
ahead q f = λ a. f (a + q)

-- +0.0
unfoldable pub zeroed : Row
zeroed = λ a. zero_f

-- x less the first c of the numbers s, each times its own of m, in turn
unfoldable pub less_all : ℕ → Float → (ℕ → Float) → (ℕ → Float) → Float
less_all zero x s m = x
less_all (suc c) x s m = less_all c x s m ⊖ s c ⊗ m c

-- the run of one slice that begins at q, less c others of it, of which the u-th begins at `from u`
unfoldable pub less_runs : ℕ → Row → ℕ → (ℕ → ℕ) → (ℕ → Float) → Row
less_runs c f q from m = λ a. less_all c (f a) (λ u. f (from u + (a - q))) m

-- x − acc
unfoldable pub less_each : Row → Row → Row
less_each f s = λ a. f a ⊖ s a

-- acc + g·l
unfoldable pub plus_times : Row → Row → Float → Row
plus_times f g l = λ a. f a ⊕ g a ⊗ l

-- (((acc + g0·l0) + g1·l1) + g2·l2) + g3·l3
unfoldable pub plus_four : Row → Row → Row → Row → Row → Float → Float → Float → Float → Row
plus_four f g0 g1 g2 g3 l0 l1 l2 l3 = λ a. (((f a ⊕ g0 a ⊗ l0) ⊕ g1 a ⊗ l1) ⊕ g2 a ⊗ l2) ⊕ g3 a ⊗ l3

-- a·r
unfoldable pub times : Row → Float → Row
times s r = λ a. s a ⊗ r

-- (p·a − q·b)·r
unfoldable pub combined : Row → Row → Float → Float → Float → Row
combined s t p q r = λ a. (p ⊗ s a ⊖ q ⊗ t a) ⊗ r

-- a·p + b·q
unfoldable pub blended : Row → Row → Float → Float → Row
blended s t p q = λ a. s a ⊗ p ⊕ t a ⊗ q

-- ---- what the kernels ask: the first n numbers are there

pub record TwoPre (n x s : ℕ) : Type 0 where
  pub out : n ≤ x
  pub first : n ≤ s

pub record ThreePre (n x s t : ℕ) : Type 0 where
  pub out : n ≤ x
  pub first : n ≤ s
  pub second : n ≤ t

-- and of one slice: n numbers from q on, past its first n
pub record AheadPre (n q x : ℕ) : Type 0 where
  pub apart : n ≤ q
  pub out : q + n ≤ x

-- c runs of n numbers, of which the u-th begins at `from u` and ends before q, and n numbers from q on
pub record RunsPre (c n q x : ℕ) (from : ℕ → ℕ) : Type 0 where
  pub apart : (u : ℕ) → u < c → from u + n ≤ q
  pub out : q + n ≤ x
