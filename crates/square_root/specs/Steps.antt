-- What the steps of the square root say of the whole numbers that they give. Definitions only. Assumes nothing.
use Rattle.std.specs.Prelude.{◌≡◌, false, ℕ, ◌+◌, ◌*◌, ◌/◌, ◌^◌, ◌≤◌, ◌<◌}
use Rattle.std.specs.Float.{binary64}
use Rattle.std.specs.Float.Ieee.{units}
use Rattle.model.specs.Root.{square, round_root}

-- Heron's rule
abbrev pub heron_of : ℕ → ℕ → ℕ
heron_of d q = (q + d / q) / 2

-- r is where Heron's rule may start, near the square root of d: the squares differ by a fortieth of d at most
pub record Close (d r : ℕ) : Type 0 where
  pub from : 2 ^ 26 ≤ r
  pub over : 40 * square r ≤ 41 * d
  pub under : 39 * d ≤ 40 * square r

-- q is the whole part of the square root of d, and r is what is left
pub record Whole (d q r : ℕ) : Type 0 where
  pub whole : square q + r ≡ d
  pub left : r ≤ 2 * q

-- q is the whole part of the square root of d * 2 ^ 52, and r is what is left
pub record Digits (d q r : ℕ) : Type 0 where
  pub whole : square q + r ≡ d * 2 ^ 52
  pub left : r ≤ 2 * q
  pub small : q < 2 ^ 53

-- n, of 53 digits, is what d * 2 ^ 52 has its root rounded to, and so for d * 2 ^ 52 with any even number of zeros after it
pub record NearRoot (d n : ℕ) : Type 0 where
  pub from : 2 ^ 52 ≤ n
  pub to : n ≤ 2 ^ 53
  pub rounds : (h : ℕ) → round_root (d * 2 ^ 52 * square (2 ^ h)) ≡ units binary64 false n h

-- ---- what a step asks of its caller

-- d has 54 digits at most, and q, of 27 or 28, is no zero
pub record HeronPre (d q : ℕ) : Type 0 where
  pub number : d < 2 ^ 54
  pub from : 2 ^ 26 ≤ q
  pub to : q < 2 ^ 28

-- d has 53 or 54 digits
pub record LongPre (d : ℕ) : Type 0 where
  pub from : 2 ^ 52 ≤ d
  pub to : d < 2 ^ 54

pub record ExtendPre (d q r : ℕ) : Type 0 where
  pub long : LongPre d
  pub root : Whole d q r

-- m has 53 digits, and m * 2 ^ e is below the square of what overflows
pub record ScaledPre (m e : ℕ) : Type 0 where
  pub from : 2 ^ 52 ≤ m
  pub to : m < 2 ^ 53
  pub exponent : e < 3068
