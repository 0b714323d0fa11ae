-- Laws of the walk from LAPACK, one pivot at a time and in turn. Assumes nothing.
use Rattle.std.specs.Prelude.{ℤ, pos, unsigned_abs, Result, Ok, Err}
use Rattle.std.specs.Int.{from_bool}
use mathlib.Core.Path.{◌≡◌, refl, ◌∙◌, ap}
use mathlib.Core.Bool.{Bool, true, false, not, ◌&&◌}
use mathlib.Core.List.{List}
use Prim.Native.Nat.{ℕ, ◌+◌, ◌-◌, ◌<◌, ◌≤◌}
use native.Mathlib.Omega.{arith}
use borrow.Author.Tests.{lt-ltb, le-ltb, ltb-true, leb-true}
use lib.Dec.{ltb, leb}
use lib.ListN.{length, get_or, set, replicate}
use mir.Syntax.{w32}
use mir.Val.{of_z, to_z, SFits}
use Rattle.std.proofs.lemmas.Int.{to_z-of_z}
use Rattle.model.specs.Matrix.{naturals, places, put, swapped}
use Rattle.model.specs.Head.{last_of, byte_of}
use Rattle.model.specs.Lapack.{integers, is_negative, same_number, walk, pair_sound, row_sound, fault_at, Arranged, past_pivot, pivot_read, arranged_of}
use Rattle.model.specs.declared.Refusal.{Refusal}
use Rattle.model.specs.declared.Refusal.TheVariants.{ListNumber, ListPair}
use Rattle.model.proofs.Cases.{and_left, and_right}
use Rattle.model.proofs.Stores.{naturals-zeros, swap-places, both-naturals}
use Rattle.model.proofs.Recorded.{last-from}
use Rattle.model.proofs.Tabulated.{length-tabulate_from}
use Rattle.model.proofs.Lapack.{read-on}
use Rattle.buffers.specs.Buffers.{in_order}
use Rattle.lapack.specs.Walks.{stepped, arranged, ReadPre}
use Rattle.buffers.proofs.Buffers.{places-in_order}
use Rattle.lapack.proofs.Stepped.{taken}

-- ---- a pair; the code holds a number by its bits

module _ (xs : List ℤ) (k : ℕ) (own : SFits w32 (get_or xs k (pos 0))) where
  here : to_z w32 (of_z w32 (get_or xs k (pos 0))) ≡ integers xs k
  unfolding integers
  here = to_z-of_z w32 (get_or xs k (pos 0)) own

  pub negative-own : (t : Bool) → t ≡ is_negative (to_z w32 (of_z w32 (get_or xs k (pos 0)))) → t ≡ is_negative (integers xs k)
  negative-own t e = e ∙ ap is_negative here

  pub size-own : (n : ℕ) → n ≡ unsigned_abs (to_z w32 (of_z w32 (get_or xs k (pos 0)))) → n ≡ unsigned_abs (integers xs k)
  size-own n e = e ∙ ap unsigned_abs here

  pub pair-positive : (t : Bool) → t ≡ is_negative (integers xs k) → t ≡ false → not t ≡ pair_sound (length xs) (integers xs) k
  pair-positive t e f = rw (← e, f) refl

  pub pair-same : (t s : Bool) → t ≡ is_negative (integers xs k) → t ≡ true → k + 1 < length xs → SFits w32 (get_or xs (k + 1) (pos 0))
      → s
      ≡ same_number (to_z w32 (of_z w32 (get_or xs (k + 1) (pos 0)))) (to_z w32 (of_z w32 (get_or xs k (pos 0)))) → s ≡ pair_sound (length xs) (integers xs) k
  unfolding integers
  pair-same t s e f l next q =
      rw (← e, f, lt-ltb (k + 1) (length xs) l) (q ∙ rw (to_z-of_z w32 (get_or xs (k + 1) (pos 0)) next, to_z-of_z w32 (get_or xs k (pos 0)) own) refl)

  pub pair-last : (t : Bool) → t ≡ is_negative (integers xs k) → t ≡ true → length xs ≤ k + 1 → ltb (k + 1) (length xs) ≡ pair_sound (length xs) (integers xs) k
  pair-last t e f l = rw (← e, f, le-ltb (k + 1) (length xs) l) refl

-- ---- one pivot from LAPACK

module _ (n : ℕ) (list : ℕ → ℤ) (k : ℕ) (a : Arranged) (t : Bool) (p : t ≡ pair_sound n list k) where
  pub pair-refused : t ≡ false → Err (ListPair (record { 0 = k })) ≡ pivot_read n list k a
  unfolding pivot_read fault_at
  pair-refused f = rw (← p, f) refl

  module _ (h : t ≡ true) (block : Bool) (b : block ≡ is_negative (list k)) (e row : ℕ) (l : e ≡ last_of k block) (r : row ≡ unsigned_abs (list k)) where
    pub number-refused : ltb e row && leb row n ≡ false → Err (ListNumber (record { 0 = k })) ≡ pivot_read n list k a
    unfolding pivot_read fault_at
    number-refused f =
        let no : row_sound n (last_of k (is_negative (list k))) (list k) ≡ false = rw (← b, ← l, ← r) f in
        rw (← p, h, no) refl

    number-taken : ltb e row && leb row n ≡ true → Ok (last_of k (is_negative (list k)) + 1, past_pivot a k (list k)) ≡ pivot_read n list k a
    unfolding pivot_read fault_at
    number-taken f =
        let yes : row_sound n (last_of k (is_negative (list k))) (list k) ≡ true = rw (← b, ← l, ← r) f in
        rw (← p, h, yes) refl

-- the pivot's last column and the row that its number names are among the places
read-in : (n k e row : ℕ) (block : Bool) → e ≡ last_of k block → ltb e row && leb row n ≡ true → (k ≤ e) × (e < row) × (row ≤ n)
read-in n k e row block l f =
    (rw l (last-from k block), ltb-true e row (and_left (ltb e row) (leb row n) f), leb-true row n (and_right (ltb e row) (leb row n) f))

past-arranged : (rows blocks new bytes : List ℕ) (k : ℕ) (z : ℤ) (block : Bool) (e row : ℕ) → block ≡ is_negative z → e ≡ last_of k block → row ≡ unsigned_abs z
    → places new ≡ swapped (places rows) e (row - 1) → naturals bytes ≡ put (put (naturals blocks) e 0) k (byte_of block)
    → past_pivot (arranged rows blocks) k z ≡ arranged new bytes
unfolding past_pivot
past-arranged rows blocks new bytes k z block e row b l r x y = rw (x, y, l, r, b) refl

pub read-done : (n : ℕ) (list : ℕ → ℤ) (k : ℕ) (rows blocks new bytes : List ℕ) (t block : Bool) (e row byte : ℕ) → ReadPre n k (length rows) (length blocks)
    → t ≡ pair_sound n list k → t ≡ true → block ≡ is_negative (list k) → e ≡ last_of k block → row ≡ unsigned_abs (list k) → ltb e row && leb row n ≡ true
    → new ≡ set (set rows e (get_or rows (row - 1) 0)) (row - 1) (get_or rows e 0) → byte ≡ from_bool block → bytes ≡ set (set blocks e 0) k byte
    → Ok (e + 1, arranged new bytes) ≡ pivot_read n list k (arranged rows blocks)
read-done n list k rows blocks new bytes t block e row byte w p h b l r f x y z =
    let inn = read-in n k e row block l f in
    let swap : places new ≡ swapped (places rows) e (row - 1)
    = swap-places rows new e (row - 1) (omega (arith, w.rows, inn.1, inn.2)) (omega (arith, w.rows, inn.1, inn.2)) x in
    let noted = both-naturals blocks bytes k e byte 0 (byte_of block) 0 z (y ∙ own block) refl inn.0 (omega (arith, w.bytes, inn.1, inn.2)) in
    let past = past-arranged rows blocks new bytes k (list k) block e row b l r swap noted in
    let last : e + 1 ≡ last_of k (is_negative (list k)) + 1 = rw (l, b) refl in
    rw (← past, last) (number-taken n list k (arranged rows blocks) t p h block b e row l r f)
  where
    own : (c : Bool) → from_bool c ≡ byte_of c
    own true = refl
    own false = refl

-- ---- the pivots from LAPACK in turn

-- the next column, after it and within the list's
pub from-goes : (n k l : ℕ) (list : ℕ → ℤ) (a b : Arranged) (r : Result ℕ Refusal) → k < n → stepped r b ≡ pivot_read n list k a → r ≡ Ok l → (l ≤ n) × (k < l)
from-goes n k l list a b r h e o =
    let on = read-on n list k l a b (taken l b r _ e o) in
    (omega (arith, on.next, on.column.low, on.column.high), omega (arith, on.next, last-from k (is_negative (list k))))

-- as the walk begins
pub from-begins : (n m : ℕ) (list : ℕ → ℤ) (rows blocks : List ℕ) → rows ≡ in_order m → m ≡ n → blocks ≡ replicate n 0
    → (length rows ≡ n) × (walk n (pivot_read n list) (n - 0) 0 (arranged rows blocks) ≡ arranged_of n list)
unfolding in_order
from-begins n m list rows blocks e l z =
    let own : places rows ≡ (λ i. i) = ap places e ∙ places-in_order m in
    let count : n - 0 ≡ n = omega arith in
    let zeros : naturals blocks ≡ (λ i. 0) = ap naturals z ∙ naturals-zeros n in
    (ap length e ∙ length-tabulate_from 0 m (λ k. k) ∙ l, rw (count, own, zeros) refl)
