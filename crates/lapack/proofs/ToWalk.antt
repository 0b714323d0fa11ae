-- Laws of the walk to LAPACK: the search for a row, one pivot, and the pivots in turn. Assumes nothing.
use Rattle.std.specs.Prelude.{ℤ, pos, Result, Ok, Err}
use mathlib.Core.Path.{◌≡◌, refl, sym, ◌∙◌, ap}
use mathlib.Core.Bool.{Bool, true, false}
use mathlib.Core.List.{List}
use Prim.Native.Nat.{ℕ, suc, ◌+◌, ◌-◌, ◌<◌, ◌≤◌}
use native.Mathlib.Omega.{arith}
use borrow.Author.Tests.{eq-eqb, ne_eqb}
use lib.Dec.{eqb}
use lib.ListN.{length, get_or, set, replicate}
use lib.Signed.{mag}
use mir.Syntax.{w32}
use mir.Val.{of_z, to_z}
use Rattle.std.proofs.lemmas.Int.{to_z-of_z}
use Rattle.model.specs.Matrix.{naturals, places, swapped}
use Rattle.model.specs.Step.{begins}
use Rattle.model.specs.Head.{last_of}
use Rattle.model.specs.Kept.{Standing}
use Rattle.model.specs.Lapack.{integers, number_of, walk, place_from, stands_first, with_number, Listing, pivot_listed, list_of}
use Rattle.model.specs.declared.Refusal.{Refusal}
use Rattle.model.specs.declared.Refusal.TheVariants.{BlockRow}
use Rattle.model.proofs.Stores.{integers-zeros, place_at, swap-places, both-integers}
use Rattle.model.proofs.Order.{own-places}
use Rattle.model.proofs.Recorded.{last-from}
use Rattle.model.proofs.Forth.{Sound, sound-lists, place-in, standing-past, standing-last, last-in, listed-on}
use Rattle.model.proofs.Tabulated.{length-tabulate_from}
use Rattle.buffers.specs.Buffers.{in_order}
use Rattle.lapack.specs.Walks.{stepped, listing, SoundPre, PivotPre}
use Rattle.buffers.proofs.Buffers.{places-in_order}
use Rattle.lapack.proofs.Stepped.{taken}

-- ---- a search

module _ (xs : List ℕ) (r w : ℕ) where
  pub place_step : (p : ℕ) → p < length xs → (get_or xs p 0 ≡ r → ⊥) → place_from (places xs) r (length xs - p) p ≡ w
      → place_from (places xs) r (length xs - (p + 1)) (p + 1) ≡ w
  unfolding place_from
  place_step p h t e =
      let m : length xs - p ≡ suc (length xs - (p + 1)) = omega arith in
      let other : eqb (places xs p) r ≡ false = ne_eqb (places xs p) r (λ s. t (place_at xs p h ∙ s)) in
      rw (m, other) at e

  pub place_here : (p : ℕ) → p < length xs → get_or xs p 0 ≡ r → place_from (places xs) r (length xs - p) p ≡ w → p ≡ w
  unfolding place_from
  place_here p h t e =
      let m : length xs - p ≡ suc (length xs - (p + 1)) = omega arith in
      let same : eqb (places xs p) r ≡ true = eq-eqb (places xs p) r (sym (place_at xs p h) ∙ t) in
      rw (m, same) at e

  pub place-end : (p : ℕ) → length xs ≤ p → p ≤ length xs → place_from (places xs) r (length xs - p) p ≡ w → length xs ≡ w
  unfolding place_from
  place-end p h l e = let m : length xs - p ≡ 0 = omega arith in let w : length xs ≡ p = omega arith in w ∙ (rw m at e)

-- ---- one pivot to LAPACK

pub stands-here : (xs os : List ℕ) (block : Bool) (k : ℕ) → k < length xs → block ≡ true
    → eqb (get_or xs k 0) (get_or os k 0) ≡ stands_first block (places xs) (naturals os) k
unfolding naturals
stands-here xs os block k h b = rw b (ap (λ (x : ℕ). eqb x (get_or os k 0)) (place_at xs k h))

-- a number stored at a pivot's columns; the code holds it by its bits
pub noted : (xs : List ℤ) (k e : ℕ) (z y : ℤ) → z ≡ y → mag z < 2147483648 → k ≤ e → e < length xs
    → integers (set (set xs e (to_z w32 (of_z w32 z))) k (to_z w32 (of_z w32 z))) ≡ with_number (integers xs) k e y
noted xs k e z y h m l o =
    let own : to_z w32 (of_z w32 z) ≡ z = to_z-of_z w32 z (record { sfits = m }) in
    both-integers xs _ k e _ _ refl l o ∙ rw (own, h) refl

pub sound-in : (n : ℕ) (order blocks : List ℕ) → SoundPre n order blocks → Sound n (naturals order) (naturals blocks)
sound-in n order blocks s = sound-lists n order blocks s.order_sound s.bytes_sound s.bytes

module _ (n : ℕ) (order blocks rows : List ℕ) (k : ℕ) (s : SoundPre n order blocks) (w : PivotPre n order k rows) where
  -- the pivot's last column is one of the n, and the row that the order has there stands at it or after it
  pub column_in : (e : ℕ) (block : Bool) → block ≡ begins (naturals blocks) k → e ≡ last_of k block → (k ≤ e) × (e < n)
  column_in e block b h =
      rw (h, b) (last-from k (begins (naturals blocks) k), last-in n (naturals order) (naturals blocks) (sound-in n order blocks s) k w.here)

  pub place-there : (e p : ℕ) (block : Bool) → block ≡ begins (naturals blocks) k → e ≡ last_of k block
      → stands_first block (places rows) (naturals order) k ≡ true → p ≡ place_from (places rows) (get_or order e 0) (length rows - e) e
      → (e ≤ p) × (p < n) × (places rows p ≡ naturals order e)
  unfolding naturals
  place-there e p block b h t q =
      let sound = sound-in n order blocks s in
      let last : Standing n (naturals order) e (places rows)
      = rw h (standing-last n (naturals order) (naturals blocks) sound k block (places rows) t w.standing) in
      rw (q, w.room) (place-in n (naturals order) (naturals blocks) sound e (places rows) (column_in e block b h).1 last)

  pub pivot-refused : (list : ℕ → ℤ) (t : Bool) (block : Bool) → block ≡ begins (naturals blocks) k
      → t ≡ stands_first block (places rows) (naturals order) k → t ≡ false
      → Err (BlockRow (record { 0 = k })) ≡ pivot_listed n (naturals order) (naturals blocks) k (record { rows = places rows; list = list })
  unfolding pivot_listed
  pivot-refused list t block b h f =
      let no : stands_first (begins (naturals blocks) k) (places rows) (naturals order) k ≡ false = rw (← b) (sym h ∙ f) in
      rw no refl

  pub pivot-done : (list list' : List ℤ) (new : List ℕ) (e p : ℕ) (t block : Bool) → length list ≡ n → block ≡ begins (naturals blocks) k
      → t ≡ stands_first block (places rows) (naturals order) k → t ≡ true → e ≡ last_of k block
      → p ≡ place_from (places rows) (get_or order e 0) (length rows - e) e → new ≡ set (set rows e (get_or rows p 0)) p (get_or rows e 0)
      → integers list' ≡ with_number (integers list) k e (number_of block p)
      → Ok (e + 1, listing new list') ≡ pivot_listed n (naturals order) (naturals blocks) k (listing rows list)
  unfolding pivot_listed naturals
  pivot-done list list' new e p t block l b h y q r x z =
      let c = column_in e block b q in
      let there = place-there e p block b q (sym h ∙ y) r in
      let swap : places new ≡ swapped (places rows) e p = swap-places rows new e p (omega (arith, w.room, c.1)) (omega (arith, w.room, there.1)) x in
      let stands : stands_first (begins (naturals blocks) k) (places rows) (naturals order) k ≡ true = rw (← b) (sym h ∙ y) in
      rw (stands, swap, z, ← b, ← q, ← w.room, ← r) refl

-- ---- the pivots to LAPACK in turn

-- as the walk begins
pub to-begins : (n m : ℕ) (order blocks : ℕ → ℕ) (rows : List ℕ) (list : List ℤ) → rows ≡ in_order m → m ≡ n → list ≡ replicate n (pos 0)
    → (length rows ≡ n) × Standing n order 0 (places rows)
    × (walk n (pivot_listed n order blocks) (n - 0) 0 (listing rows list) ≡ list_of n order blocks)
unfolding in_order
to-begins n m order blocks rows list e l z =
    let zeros : integers list ≡ (λ i. pos 0) = ap integers z ∙ integers-zeros n in
    let own : places rows ≡ (λ i. i) = ap places e ∙ places-in_order m in
    let count : n - 0 ≡ n = omega arith in (
      ap length e ∙ length-tabulate_from 0 m (λ k. k) ∙ l,
      rw own (record { permutes = own-places n; placed = λ i h. absurd (omega arith) }),
      rw (count, own, zeros) refl,
    )

-- the rows in their places, one more after each step
pub to-goes : (n k l : ℕ) (order blocks rows new : List ℕ) (list list' : List ℤ) (r : Result ℕ Refusal) → SoundPre n order blocks → PivotPre n order k rows
    → stepped r (listing new list') ≡ pivot_listed n (naturals order) (naturals blocks) k (listing rows list) → r ≡ Ok l
    → (l ≤ n) × (k < l) × Standing n (naturals order) l (places new)
to-goes n k l order blocks rows new list list' r s w e o =
    let sound = sound-in n order blocks s in
    let on = listed-on n (naturals order) (naturals blocks) sound k l (listing rows list) (listing new list') (taken l (listing new list') r _ e o) in
    let c = last_of k (begins (naturals blocks) k) in
    let inn : c < n = last-in n (naturals order) (naturals blocks) sound k w.here in
    let last = standing-last n (naturals order) (naturals blocks) sound k (begins (naturals blocks) k) (places rows) on.in_place w.standing in
    let found = place-in n (naturals order) (naturals blocks) sound c (places rows) inn last in
    let moved = standing-past n (naturals order) (naturals blocks) sound c _ (places rows) found.0 found.1 found.2 last in
    let rows_are : places new ≡ swapped (places rows) c (place_from (places rows) (naturals order c) (n - c) c) = ap (λ (x : Listing). x.rows) on.made in
    (omega (arith, on.next, inn), omega (arith, on.next, last-from k (begins (naturals blocks) k)), rw (on.next, rows_are) moved)
