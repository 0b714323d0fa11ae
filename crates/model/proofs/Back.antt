-- LAPACK's lists, back and forth: the walk to LAPACK finds the exchanges again that the walk from it made. Assumes nothing.
use Rattle.std.specs.Prelude.{ℤ, unsigned_abs, Result, Ok}
use mathlib.Core.Path.{◌≡◌, refl, sym, ◌∙◌, ap, subst}
use mathlib.Core.Bool.{Bool, true, false}
use Prim.Native.Nat.{ℕ, zero, suc, ◌+◌, ◌-◌, ◌≤◌, ◌<◌}
use native.Mathlib.Omega.{arith}
use borrow.Author.Tests.{eq-eqb, ltb-true, ltb-false}
use lib.Dec.{ltb, eqb}
use Rattle.model.specs.Matrix.{swapped}
use Rattle.model.specs.Step.{begins}
use Rattle.model.specs.Head.{last_of, byte_of}
use Rattle.model.specs.Kept.{Paired, Permutes}
use Rattle.model.specs.Lapack.{number_of, is_negative, goes, walk, place_from, stands_first, with_number, Listing, pivot_listed, Arranged, past_pivot}
use Rattle.model.specs.Lapack.{pivot_read}
use Rattle.model.specs.declared.Refusal.{Refusal}
use Rattle.model.proofs.Cases.{test, cmp}
use Rattle.model.proofs.Order.{swapped-permutes, permutes-apart}
use Rattle.model.proofs.Recorded.{last-from, last_block, last-single, step_bytes, bytes-before, bytes-at, step-paired}
use Rattle.model.proofs.Walk.{walk-turn}
use Rattle.model.proofs.Lapack.{number-again, place-found, Faultless, WentOn, went-on}
use Rattle.model.proofs.Forth.{swapped_at, swapped-before, with-number-before, with-number-in, pivot-is}

-- ---- from LAPACK, and back

module _ (n : ℕ) (list : ℕ → ℤ) where
  -- the walk at column k: the rows are exchanged, the bytes of the columns before it are sound
  pub record Fine (k : ℕ) (a : Arranged) : Type 0 where
    pub permutes : Permutes n a.rows
    pub paired : Paired k a.blocks

  past-is : (k : ℕ) (a : Arranged) → Faultless n list k
      → past_pivot a k (list k)
      ≡ record { rows = swapped a.rows (last_of k (is_negative (list k))) (unsigned_abs (list k) - 1); blocks = step_bytes a.blocks k (is_negative (list k)) }
  past-is k a w = pivot-is a.rows a.blocks k (list k) (is_negative (list k)) (unsigned_abs (list k) - 1) refl (omega (arith, w.low))

  past-fine : (k : ℕ) (a : Arranged) → k < n → Faultless n list k → Fine k a → Fine (last_of k (is_negative (list k)) + 1) (past_pivot a k (list k))
  past-fine k a h w s =
      rw (past-is k a w) (record {
        permutes = swapped-permutes n a.rows (last_of k (is_negative (list k))) (unsigned_abs (list k) - 1) (omega (arith, w.low, w.high))
            (omega (arith, w.low, w.high)) s.permutes;
        paired = step-paired a.blocks k (is_negative (list k)) s.paired;
      })

  -- what the columns before k have is as it was
  pub record KeptBefore (k : ℕ) (a b : Arranged) : Type 0 where
    pub rows : (i : ℕ) → i < k → b.rows i ≡ a.rows i
    pub bytes : (i : ℕ) → i < k → b.blocks i ≡ a.blocks i

  read-kept : (m k : ℕ) (a b : Arranged) → walk n (pivot_read n list) m k a ≡ Ok b → KeptBefore k a b
  unfolding walk
  read-kept zero k a b x = let z : b ≡ a = cc in rw z (record { rows = λ i l. refl; bytes = λ i l. refl })
  read-kept (suc m) k a b x =
      test (ltb k n)
      (λ t. let s = went-on n list m k a b (ltb-true k n t) x in
      let block = is_negative (list k) in
      let far : k ≤ last_of k block = last-from k block in
      let kept = read-kept m (last_of k block + 1) (past_pivot a k (list k)) b s.rest in
      let is = past-is k a s.column in
      record {
        rows = λ i l. kept.rows i (omega arith) ∙ ap (λ (c : Arranged). c.rows i) is
            ∙ swapped-before a.rows (last_of k block) (unsigned_abs (list k) - 1) i (omega (arith, s.column.low)) (omega arith);
        bytes = λ i l. kept.bytes i (omega arith) ∙ ap (λ (c : Arranged). c.blocks i) is ∙ bytes-before a.blocks k block i l;
      })
      (λ t. let y : Ok a ≡ Ok b = rw t at x in let z : b ≡ a = cc in rw z (record { rows = λ i l. refl; bytes = λ i l. refl }))

  pub read-fine : (m k : ℕ) (a b : Arranged) → Fine k a → k ≤ n → n - k ≤ m → walk n (pivot_read n list) m k a ≡ Ok b → Fine n b
  unfolding walk
  read-fine zero k a b s h f x = let z : b ≡ a = cc in let e : k ≡ n = omega arith in rw z (subst (λ (j : ℕ). Fine j a) e s)
  read-fine (suc m) k a b s h f x =
      test (ltb k n)
      (λ t. let here : k < n = ltb-true k n t in
      let on = went-on n list m k a b here x in
      read-fine m (last_of k (is_negative (list k)) + 1) (past_pivot a k (list k)) b (past-fine k a here on.column s)
      (omega (arith, on.column.low, on.column.high)) (omega (arith, last-from k (is_negative (list k)))) on.rest)
      (λ t. let y : Ok a ≡ Ok b = rw t at x in let z : b ≡ a = cc in let e : k ≡ n = omega (arith, ltb-false k n t) in rw z (subst (λ (j : ℕ). Fine j a) e s))

  -- what the walk to LAPACK makes again: the list from column k on, before it the numbers that were noted
  pub record ListAgain (k : ℕ) (noted : ℕ → ℤ) (r : Result Listing Refusal) : Type 0 where
    pub made : Listing
    pub is : r ≡ Ok made
    pub kept : (i : ℕ) → i < k → made.list i ≡ noted i
    pub numbers : (i : ℕ) → k ≤ i → i < n → made.list i ≡ list i

  -- order and bytes are what the walk from LAPACK ended with, at the n places
  module _ (b : Arranged) (order bytes : ℕ → ℕ) (rows-are : (i : ℕ) → i < n → order i ≡ b.rows i) (bytes-are : (i : ℕ) → i < n → bytes i ≡ b.blocks i) where
    -- one pivot: it begins a block where the number is negative, the search finds the row, and no block's first row is out of its place
    record Found (m k : ℕ) (a : Arranged) : Type 0 where
      kind : begins bytes k ≡ is_negative (list k)
      in_place : stands_first (is_negative (list k)) a.rows order k ≡ true
      place : let e = last_of k (is_negative (list k)) in place_from a.rows (order e) (n - e) e ≡ unsigned_abs (list k) - 1

    found-pivot : (m k : ℕ) (a : Arranged) → k < n → Fine k a → WentOn n list m k a b → Found m k a
    found-pivot m k a h s on = record {
      kind = ap (λ (x : ℕ). eqb x 1) own_byte ∙ byte block;
      in_place = test block (λ y. rw y (eq-eqb (a.rows k) (order k) (sym (first y)))) (λ y. rw y refl);
      place = permutes-apart n a.rows s.permutes _ p (search_found.2 ∙ last);
    }
      where
        block : Bool
        block = is_negative (list k)

        e : ℕ
        e = last_of k block

        p : ℕ
        p = unsigned_abs (list k) - 1

        late : e ≤ p
        late = omega (arith, on.column.low)

        few : p < n
        few = omega (arith, on.column.low, on.column.high)

        kept : KeptBefore (e + 1) (past_pivot a k (list k)) b
        kept = read-kept m (e + 1) (past_pivot a k (list k)) b on.rest

        is : past_pivot a k (list k) ≡ record { rows = swapped a.rows e p; blocks = step_bytes a.blocks k block }
        is = past-is k a on.column

        own_byte : bytes k ≡ byte_of block
        own_byte = bytes-are k h ∙ kept.bytes k (omega (arith, last-from k block)) ∙ ap (λ (c : Arranged). c.blocks k) is ∙ bytes-at a.blocks k block

        byte : (c : Bool) → eqb (byte_of c) 1 ≡ c
        byte true = refl
        byte false = refl

        last : order e ≡ a.rows p
        last = rows-are e (omega arith) ∙ kept.rows e (omega arith) ∙ ap (λ (c : Arranged). c.rows e) is ∙ swapped_at a.rows e p

        first : block ≡ true → order k ≡ a.rows k
        first y = rows-are k h ∙ kept.rows k (omega (arith, last-from k block)) ∙ ap (λ (c : Arranged). c.rows k) is
            ∙ swapped-before a.rows e p k late (omega (arith, last_block k block y))

        search_found : (e ≤ place_from a.rows (order e) (n - e) e) × (place_from a.rows (order e) (n - e) e < e + (n - e))
            × (a.rows (place_from a.rows (order e) (n - e) e) ≡ order e)
        search_found = place-found a.rows (order e) (n - e) e p late (omega arith) (sym last)

    pub back-forth : (m k : ℕ) (a : Arranged) (noted : ℕ → ℤ) → Fine k a → k ≤ n → n - k ≤ m → walk n (pivot_read n list) m k a ≡ Ok b
        → ListAgain k noted (walk n (pivot_listed n order bytes) m k (record { rows = a.rows; list = noted }))
    unfolding walk pivot_listed goes
    back-forth zero k a noted s h f x = record {
      made = record { rows = a.rows; list = noted };
      is = refl;
      kept = λ i l. refl;
      numbers = λ i l o. absurd (omega arith);
    }
    back-forth (suc m) k a noted s h f x =
        test (ltb k n) (more (λ l c u v y z q. back-forth m l c u v y z q))
        (λ t. record {
          made = record { rows = a.rows; list = noted };
          is = rw t refl;
          kept = λ i l. refl;
          numbers = λ i l o. absurd (omega (arith, ltb-false k n t));
        })
      where
        block : Bool
        block = is_negative (list k)

        e : ℕ
        e = last_of k block

        p : ℕ
        p = unsigned_abs (list k) - 1

        more : ((l : ℕ) (c : Arranged) (u : ℕ → ℤ) → Fine l c → l ≤ n → n - l ≤ m → walk n (pivot_read n list) m l c ≡ Ok b
            → ListAgain l u (walk n (pivot_listed n order bytes) m l (record { rows = c.rows; list = u })))
            → ltb k n ≡ true → ListAgain k noted (walk n (pivot_listed n order bytes) (suc m) k (record { rows = a.rows; list = noted }))
        more next t =
            let here : k < n = ltb-true k n t in
            let on = went-on n list m k a b here x in
            let found = found-pivot m k a here s on in
            let far : k ≤ e = last-from k block in
            let number : number_of block p ≡ list k = number-again (list k) (omega (arith, on.column.low)) in
            let again = next (e + 1) (past_pivot a k (list k)) (with_number noted k e (list k)) (past-fine k a here on.column s)
            (omega (arith, on.column.low, on.column.high)) (omega arith) on.rest in
            let rows : (past_pivot a k (list k)).rows ≡ swapped a.rows e p = ap (λ (c : Arranged). c.rows) (past-is k a on.column) in
            record {
              made = again.made;
              is = on_listed found here number ∙ sym (rw rows refl) ∙ again.is;
              kept = λ i l. again.kept i (omega arith) ∙ with-number-before noted k block (list k) i l;
              numbers = λ i l o. cmp i (e + 1)
                  (λ c. again.kept i c ∙ with-number-in noted k block (list k) i l (omega arith) ∙ alike on.column i l (omega arith))
                  (λ c. again.numbers i (omega arith) o) (λ c. again.numbers i (omega arith) o);
            }
          where
            on_listed : Found m k a → k < n → number_of block p ≡ list k
                → walk n (pivot_listed n order bytes) (suc m) k (record { rows = a.rows; list = noted })
                ≡ walk n (pivot_listed n order bytes) m (e + 1) (record { rows = swapped a.rows e p; list = with_number noted k e (list k) })
            on_listed found here number =
                walk-turn n (pivot_listed n order bytes) m k (record { rows = a.rows; list = noted }) here
                ∙ rw (found.kind, found.in_place, found.place, number) refl

            alike : Faultless n list k → (i : ℕ) → k ≤ i → i ≤ e → list k ≡ list i
            alike w i l o =
                cmp i k (λ c. absurd (omega arith)) (λ c. ap list (sym c))
                (λ c. test block
                (λ y. let at : i ≡ k + 1 = omega (arith, last_block k block y) in sym (ap list at ∙ (w.pair y).1))
                (λ y. absurd (omega (arith, last-single k block y))))
