-- What the record of pivots keeps to in every run (proofs/Recorded.antt shows it), and an order on the way to LAPACK. No definition of an answer cites it:
-- proofs of the code rely on it.
-- Definitions only. Assumes nothing.
use Rattle.std.specs.Prelude.{◌≡◌, ℕ, ◌+◌, ◌≤◌, ◌<◌}
use Rattle.model.specs.Step.{past_of, first_of}

-- block bytes before n: each is 0 or 1, and a 1 has a 0 after it, before n too
pub record Paired (n : ℕ) (f : ℕ → ℕ) : Type 0 where
  pub byte : (c : ℕ) → c < n → f c ≤ 1
  pub room : (c : ℕ) → c < n → f c ≡ 1 → c + 1 < n
  pub apart : (c : ℕ) → c < n → f c ≡ 1 → f (c + 1) ≡ 0

-- a pivot begins at k: no block begins right before it
abbrev pub Starts : (ℕ → ℕ) → ℕ → Type 0
Starts blocks k = (c : ℕ) → c + 1 ≡ k → blocks c ≡ 1 → ⊥

-- no exchange of the pivot at k goes back: the first column's is with no row before k, the last column's with none before that column
pub record Ahead (blocks partners : ℕ → ℕ) (k : ℕ) : Type 0 where
  pub first : k ≤ first_of blocks partners k
  pub last : past_of blocks k ≤ partners k + 1

-- the pivots before n
pub record Recorded (n : ℕ) (blocks partners : ℕ → ℕ) : Type 0 where
  pub paired : Paired n blocks
  pub ahead : (k : ℕ) → k < n → Starts blocks k → Ahead blocks partners k

-- f has an inverse, and moves nothing at or past n
pub record Permutes (n : ℕ) (f : ℕ → ℕ) : Type 0 where
  pub inverse : ℕ → ℕ
  pub left : (i : ℕ) → inverse (f i) ≡ i
  pub right : (i : ℕ) → f (inverse i) ≡ i
  pub fixes : (i : ℕ) → n ≤ i → f i ≡ i

-- a walk to LAPACK at column k: the rows of the places before it stand there
pub record Standing (n : ℕ) (order : ℕ → ℕ) (k : ℕ) (rows : ℕ → ℕ) : Type 0 where
  pub permutes : Permutes n rows
  pub placed : (i : ℕ) → i < k → rows i ≡ order i
