-- LAPACK's list of pivots: made of an order and block bytes, and turned back into them. From docs/SCOPE.md, "LAPACK's pivot lists", and refusals 1, 25, 26,
-- 16, 28, 29 and 30. A list is a function of the column, which counts from 0; its numbers are whole numbers of either sign that count rows from 1.
-- `rows` is a walk's arrangement: for each place the row that stands there. Definitions only. Assumes nothing.
use Rattle.std.specs.Prelude.{Bool, true, false, cond, not, ◌&&◌, ◌||◌, List, ℕ, zero, suc, ◌+◌, ◌-◌, leb, ltb, eqb, get_or, length, Result, Ok, Err}
use Rattle.std.specs.Prelude.{ℤ, pos, negsuc, unsigned_abs}
use Rattle.model.specs.Sizes.{most_columns}
use Rattle.model.specs.Matrix.{naturals, put, swapped, tabulate}
use Rattle.model.specs.Step.{begins}
use Rattle.model.specs.Head.{last_of, byte_of}
use Rattle.model.specs.Answer.{Said, accepted, or_else, past_check, refuse_if, turned_away, Check}
use Rattle.model.specs.Inertia.{check_bytes}
use Rattle.model.specs.Solve.{check_order}
use Rattle.model.specs.declared.Refusal.{Refusal}
use Rattle.model.specs.declared.Refusal.TheVariants.{Shape, BufferLength, BlockRow, ListNumber, ListPair}

-- ---- numbers of a list

-- a list by its index: 0 past its end
unfoldable pub integers : List ℤ → ℕ → ℤ
integers xs = λ k. get_or xs k (pos 0)

-- the number that names row p, which counts from 0: p + 1 at a 1x1, and −(p + 1), which is negsuc p, at a block
abbrev pub number_of : Bool → ℕ → ℤ
number_of block p = cond block (negsuc p) (pos (p + 1))

-- below 0, as at a block; 0 is not
abbrev pub is_negative : ℤ → Bool
is_negative (pos n) = false
is_negative (negsuc n) = true

-- of one sign and one size
abbrev pub same_number : ℤ → ℤ → Bool
same_number (pos a) (pos b) = eqb a b
same_number (pos a) (negsuc b) = false
same_number (negsuc a) (pos b) = false
same_number (negsuc a) (negsuc b) = eqb a b

-- ---- a walk up the columns

-- what a step of a walk answers, the next pivot's column and what it leaves, is gone on from; or its refusal stops the walk
unfoldable pub goes : {S : Type 0} → Result (ℕ × S) Refusal → (ℕ → S → Result S Refusal) → Result S Refusal
goes (Ok x) f = f x.0 x.1
goes (Err r) f = Err r

-- at most m pivots from column k of n on
unfoldable pub walk : {S : Type 0} → (n : ℕ) (step : ℕ → S → Result (ℕ × S) Refusal) (m k : ℕ) → S → Result S Refusal
walk n step zero k s = Ok s
walk n step (suc m) k s = let next = goes (step k s) (walk n step m) in cond (ltb k n) next (Ok s)

-- ---- sizes

-- refusal 25 is not met: three buffers of ncol places
abbrev pub three_lengths : (ncol a b c : ℕ) → Bool
three_lengths ncol a b c = eqb a ncol && (eqb b ncol && eqb c ncol)

-- refusals 1 and 25
abbrev pub sizes_check : (ncol a b c : ℕ) → Check
sizes_check ncol a b c =
    or_else (refuse_if (not (leb ncol most_columns)) Shape) (refuse_if (not (three_lengths ncol a b c)) BufferLength)

-- ---- to LAPACK

-- 1, 25, 26, 16
unfoldable pub to_check : ℕ → List ℕ → List ℕ → List ℤ → Check
to_check ncol order blocks list =
    or_else (sizes_check ncol (length order) (length blocks) (length list)) (or_else (check_order ncol (naturals order)) (check_bytes blocks))

-- the first of m places from k on at which row r stands; k + m if it stands at none of them
unfoldable pub place_from : (rows : ℕ → ℕ) → ℕ → ℕ → ℕ → ℕ
place_from rows r zero k = k
place_from rows r (suc m) k = let later = place_from rows r m (k + 1) in cond (eqb (rows k) r) k later

-- refusal 28 is not met at k: a block's first row stands in its place
abbrev pub stands_first : Bool → (rows order : ℕ → ℕ) → ℕ → Bool
stands_first block rows order k = not block || eqb (rows k) (order k)

-- the list with a pivot's number at its columns k to e
abbrev pub with_number : (ℕ → ℤ) → ℕ → ℕ → ℤ → ℕ → ℤ
with_number list k e z = put (put list e z) k z

-- what the walk to LAPACK goes on with: the rows as they stand, and the numbers so far
pub record Listing : Type 0 where
  pub rows : ℕ → ℕ
  pub list : ℕ → ℤ

-- the pivot at k: the exchange brings to its last column the row that the order has there
unfoldable pub pivot_listed : (n : ℕ) (order blocks : ℕ → ℕ) → ℕ → Listing → Result (ℕ × Listing) Refusal
pivot_listed n order blocks k s =
    let block = begins blocks k in
    let e = last_of k block in
    let p = place_from s.rows (order e) (n - e) e in
    past_check (refuse_if (not (stands_first block s.rows order k)) (BlockRow (record { 0 = k })))
    (Ok (e + 1, record { rows = swapped s.rows e p; list = with_number s.list k e (number_of block p) }))

-- each row begins at its own place, each number as 0
abbrev pub list_of : ℕ → (order blocks : ℕ → ℕ) → Result Listing Refusal
list_of n order blocks = walk n (pivot_listed n order blocks) n 0 (record { rows = λ i. i; list = λ i. pos 0 })

-- what the call leaves: its answer and the list
pub record Listed : Type 0 where
  pub answer : Said (Unit {0})
  pub list : List ℤ

-- the walk's list once it has ended well; else the list as it was
abbrev pub listed_after : ℕ → Result Listing Refusal → List ℤ → Listed
listed_after ncol (Ok s) list = record { answer = accepted tt; list = tabulate ncol s.list }
listed_after ncol (Err r) list = record { answer = turned_away r; list = list }

-- 1, 25, 26, 16, then 28 as the walk comes to it
unfoldable pub to_lapack_of : ℕ → List ℕ → List ℕ → List ℤ → Listed
to_lapack_of ncol order blocks list =
    listed_after ncol (past_check (to_check ncol order blocks list) (list_of ncol (naturals order) (naturals blocks))) list

-- ---- from LAPACK

-- 1, 25
unfoldable pub from_check : ℕ → List ℤ → List ℕ → List ℕ → Check
from_check ncol list order blocks = sizes_check ncol (length list) (length order) (length blocks)

-- refusal 30 is not met at column k of n: a negative number has its like after it
abbrev pub pair_sound : ℕ → (ℕ → ℤ) → ℕ → Bool
pair_sound n list k = not (is_negative (list k)) || (ltb (k + 1) n && same_number (list (k + 1)) (list k))

-- refusal 29 is not met: counted from 1, the number is one of n rows, and not before column e, which it moves; so it is not 0 either
abbrev pub row_sound : ℕ → ℕ → ℤ → Bool
row_sound n e z = ltb e (unsigned_abs z) && leb (unsigned_abs z) n

-- 30, then 29
unfoldable pub fault_at : ℕ → (ℕ → ℤ) → ℕ → Check
fault_at n list k =
    or_else (refuse_if (not (pair_sound n list k)) (ListPair (record { 0 = k })))
    (refuse_if (not (row_sound n (last_of k (is_negative (list k))) (list k))) (ListNumber (record { 0 = k })))

-- what the walk from LAPACK goes on with: the rows as they stand, and the block bytes so far
pub record Arranged : Type 0 where
  pub rows : ℕ → ℕ
  pub blocks : ℕ → ℕ

-- past the pivot in column k whose number is z: its exchange, and its block byte with a 0 after it
unfoldable pub past_pivot : Arranged → ℕ → ℤ → Arranged
past_pivot a k z =
    let block = is_negative z in
    let e = last_of k block in
    record { rows = swapped a.rows e (unsigned_abs z - 1); blocks = put (put a.blocks e 0) k (byte_of block) }

-- the pivot at k
unfoldable pub pivot_read : (n : ℕ) (list : ℕ → ℤ) → ℕ → Arranged → Result (ℕ × Arranged) Refusal
pivot_read n list k a = past_check (fault_at n list k) (Ok (last_of k (is_negative (list k)) + 1, past_pivot a k (list k)))

-- each row begins at its own place, without a block
abbrev pub arranged_of : ℕ → (ℕ → ℤ) → Result Arranged Refusal
arranged_of n list = walk n (pivot_read n list) n 0 (record { rows = λ i. i; blocks = λ i. 0 })

-- what the call leaves: its answer, the order and the block bytes
pub record Read : Type 0 where
  pub answer : Said (Unit {0})
  pub order : List ℕ
  pub blocks : List ℕ

-- what the walk has arranged once it has ended well; else the two lists as they were
abbrev pub read_after : ℕ → Result Arranged Refusal → List ℕ → List ℕ → Read
read_after ncol (Ok a) order blocks = record { answer = accepted tt; order = tabulate ncol a.rows; blocks = tabulate ncol a.blocks }
read_after ncol (Err r) order blocks = record { answer = turned_away r; order = order; blocks = blocks }

-- 1, 25, then 30 and 29 at each column as the walk comes to it
unfoldable pub from_lapack_of : ℕ → List ℤ → List ℕ → List ℕ → Read
from_lapack_of ncol list order blocks =
    read_after ncol (past_check (from_check ncol list order blocks) (arranged_of ncol (integers list))) order blocks
