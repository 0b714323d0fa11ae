-- Counts of positive, negative and zero eigenvalues of D, as ported. From docs/SCOPE.md, "Inertia", and refusals 19 and 16.
-- Definitions only. Assumes nothing.
use Rattle.std.specs.Prelude.{Bool, cond, not, ◌&&◌, ◌||◌, List, ℕ, zero, suc, ◌+◌, leb, ltb, eqb, length, Float, Ok, Err}
use Rattle.std.specs.Float.Ieee.{lt, le}
use Rattle.model.specs.Sizes.{most_columns}
use Rattle.model.specs.Scalar.{◌⊕◌, zero_f}
use Rattle.model.specs.Matrix.{Row, vec, naturals}
use Rattle.model.specs.Step.{begins, past_of, block_at}
use Rattle.model.specs.Answer.{Said, accepted, or_else, refuse_if, turned_away, Check}
use Rattle.model.specs.declared.Block.{Block}
use Rattle.model.specs.declared.Tally.{Tally}
use Rattle.model.specs.declared.Refusal.TheVariants.{BlockByte, InertiaLength}

-- a tally with p, n and z more
abbrev pub more : Tally → ℕ → ℕ → ℕ → Tally
more t p n z = record { positive = t.positive + p; negative = t.negative + n; zero = t.zero + z }

abbrev pub empty : Tally
empty = record { positive = 0; negative = 0; zero = 0 }

-- a 1x1 by its sign: what is neither above nor below zero is a zero, a not-a-number too
unfoldable pub one_counted : Tally → Float → Tally
one_counted t d = cond (lt zero_f d) (more t 1 0 0) (cond (lt d zero_f) (more t 0 1 0) (more t 0 0 1))

-- a block: one of each sign if det < 0; else by the sign of the trace, which is positive from 0 on, two if det > 0 and otherwise one beside a zero
unfoldable pub two_counted : Tally → Block → Tally
two_counted t b =
    let up = le zero_f (b.d11 ⊕ b.d22) in
    let definite = cond up (more t 2 0 0) (more t 0 2 0) in
    let singular = cond up (more t 1 0 1) (more t 0 1 1) in
    cond (lt b.det zero_f) (more t 1 1 0) (cond (lt zero_f b.det) definite singular)

-- one pivot, or one block, added to the tally
unfoldable pub pivot_counted : Row → Row → (ℕ → ℕ) → ℕ → Tally → Tally
pivot_counted d sub blocks k t = cond (begins blocks k) (two_counted t (block_at d sub k)) (one_counted t (d k))

-- at most m pivots from column k on, up to n
unfoldable pub tallied_from : Row → Row → (ℕ → ℕ) → ℕ → ℕ → ℕ → Tally → Tally
tallied_from d sub blocks n zero k t = t
tallied_from d sub blocks n (suc m) k t =
    let next = tallied_from d sub blocks n m (past_of blocks k) (pivot_counted d sub blocks k t) in
    cond (ltb k n) next t

-- the counts of n columns
abbrev pub tallied_of : ℕ → Row → Row → (ℕ → ℕ) → Tally
tallied_of n d sub blocks = tallied_from d sub blocks n n 0 empty

-- ---- the call

-- refusal 16 is not met at k: the byte is 0, or a 1 that has a byte after it, which is no 1
unfoldable pub byte_sound : (ℕ → ℕ) → ℕ → ℕ → Bool
byte_sound blocks n k = leb (blocks k) 1 && not (begins blocks k && (eqb (k + 1) n || begins blocks (k + 1)))

-- the least of m places from k on that is not sound: refusal 16
unfoldable pub bytes_from : (ℕ → ℕ) → ℕ → ℕ → ℕ → Check
bytes_from blocks n zero k = Ok tt
bytes_from blocks n (suc m) k =
    let rest = bytes_from blocks n m (k + 1) in
    cond (byte_sound blocks n k) rest (Err (BlockByte (record { 0 = k })))

abbrev pub check_bytes : List ℕ → Check
check_bytes blocks = bytes_from (naturals blocks) (length blocks) (length blocks) 0

-- refusal 19, then 16
unfoldable pub inertia_check : List Float → List Float → List ℕ → Check
inertia_check d sub blocks =
    or_else (refuse_if (not (eqb (length sub) (length d) && (eqb (length blocks) (length d) && leb (length d) most_columns))) InertiaLength) (check_bytes blocks)

abbrev inertia_says : Check → Tally → Said Tally
inertia_says (Ok u) t = accepted t
inertia_says (Err r) t = turned_away r

-- what the call answers
unfoldable pub inertia_of : List Float → List Float → List ℕ → Said Tally
inertia_of d sub blocks = inertia_says (inertia_check d sub blocks) (tallied_of (length d) (vec d) (vec sub) (naturals blocks))
