-- LAPACK's lists forth and back. From docs/SCOPE.md, "LAPACK's pivot lists". proofs/ForthAndBack.antt proves the first two statements, proofs/HasList.antt
-- the last. Definitions only. Assumes nothing.
use Rattle.std.specs.Prelude.{◌≡◌, not, List, ℕ, ℤ, eqb, length, take}
use Rattle.model.specs.Answer.{accepted, applied_says, refuse_if}
use Rattle.model.specs.Independence.{Call, outcome_of}
use Rattle.model.specs.Lapack.{to_lapack_of, from_lapack_of}
use Rattle.model.specs.declared.Report.{Report}
use Rattle.model.specs.declared.Refusal.TheVariants.{BufferLength}

-- a list that was made of an order and block bytes gives them again, whatever the two buffers for them hold
abbrev pub GivesAgain : (ncol : ℕ) (order blocks : List ℕ) (list : List ℤ) → Type 0
GivesAgain ncol order blocks list =
    (o b : List ℕ) → length o ≡ ncol → length b ≡ ncol → from_lapack_of ncol list o b ≡ record { answer = accepted tt; order = order; blocks = blocks }

-- an order and block bytes that were made of a list give it again, whatever the buffer for it holds
abbrev pub GivesListAgain : (ncol : ℕ) (list : List ℤ) (order blocks : List ℕ) → Type 0
GivesListAgain ncol list order blocks =
    (l : List ℤ) → length l ≡ ncol → to_lapack_of ncol order blocks l ≡ record { answer = accepted tt; list = list }

-- To LAPACK and back, of every order with block bytes that is accepted.
abbrev pub ForthAndBack : Type 0
ForthAndBack =
    (ncol : ℕ) (order blocks : List ℕ) (list : List ℤ) → let left = to_lapack_of ncol order blocks list in
    left.answer ≡ accepted tt → GivesAgain ncol order blocks left.list

-- From LAPACK and back, of every list that is accepted.
abbrev pub BackAndForth : Type 0
BackAndForth =
    (ncol : ℕ) (list : List ℤ) (order blocks : List ℕ) → let left = from_lapack_of ncol list order blocks in
    left.answer ≡ accepted tt → GivesListAgain ncol list left.order left.blocks

-- What an accepted factor call leaves, its order by the head's places, is refused for the list's length alone (25), and never with 26, 16 or 28.
abbrev pub RefusedForTheLengthAlone : Type 0
RefusedForTheLengthAlone =
    (x : Call) (r : Report) (list : List ℤ) → (outcome_of x).answer ≡ accepted r
    → let n = x.settings.ncol in
    let left = (outcome_of x).buffers in
    (to_lapack_of n (take n left.order) left.blocks list).answer ≡ applied_says (refuse_if (not (eqb (length list) n)) BufferLength)
