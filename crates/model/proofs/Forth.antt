-- LAPACK's lists, forth and back: the walk from LAPACK makes the exchanges again that the walk to it found. Assumes nothing.
use Rattle.std.specs.Prelude.{ℤ, unsigned_abs, Result, Ok, Err}
use mathlib.Core.Path.{◌≡◌, refl, sym, ◌∙◌, ap}
use mathlib.Core.Bool.{Bool, true, false}
use mathlib.Core.List.{List}
use Prim.Native.Nat.{ℕ, zero, suc, ◌+◌, ◌-◌, ◌≤◌, ◌<◌}
use native.Mathlib.Omega.{arith}
use borrow.Author.Tests.{eq-eqb, ne_eqb, eqb-true, eqb-false, ltb-true, ltb-false}
use lib.Dec.{ltb, eqb}
use lib.ListN.{length}
use Rattle.model.specs.Inertia.{check_bytes}
use Rattle.model.specs.Solve.{check_order}
use Rattle.model.specs.Matrix.{naturals, put, swapped}
use Rattle.model.specs.Step.{begins}
use Rattle.model.specs.Head.{last_of, byte_of}
use Rattle.model.specs.Kept.{Paired, Standing}
use Rattle.model.specs.Lapack.{number_of, is_negative, goes, walk, place_from, stands_first, with_number, Listing, pivot_listed, Arranged, past_pivot}
use Rattle.model.specs.Lapack.{pivot_read}
use Rattle.model.specs.declared.Refusal.{Refusal}
use Rattle.model.specs.declared.Refusal.TheVariants.{BlockRow}
use Rattle.model.proofs.Cases.{test, cmp}
use Rattle.model.proofs.Bytes.{bytes-paired}
use Rattle.model.proofs.Order.{order-inside, order-apart, swapped-permutes}
use Rattle.model.proofs.Recorded.{last-from, last_block, last-single, step_puts, step_bytes, bytes-before, bytes-at, bytes-second}
use Rattle.model.proofs.Walk.{same-ok, walk-turn, walk-over}
use Rattle.model.proofs.Lapack.{negative-number, size-number, place-found, Faultless, read-past}

-- ---- an exchange of a column with a place from it on

-- what stood at p stands at the column
pub swapped_at : (f : ℕ → ℕ) (e p : ℕ) → swapped f e p e ≡ f p
unfolding swapped
swapped_at f e p = rw (eq-eqb e e refl) refl

-- places before the column keep their rows
pub swapped-before : (f : ℕ → ℕ) (e p i : ℕ) → e ≤ p → i < e → swapped f e p i ≡ f i
unfolding swapped
swapped-before f e p i h l = rw (ne_eqb i e (λ x. omega arith), ne_eqb i p (λ x. omega arith)) refl

-- ---- the numbers that a walk has noted stay

pub with-number-before : (list : ℕ → ℤ) (k : ℕ) (block : Bool) (z : ℤ) (i : ℕ) → i < k → with_number list k (last_of k block) z i ≡ list i
unfolding put
with-number-before list k block z i h = rw (ne_eqb i k (λ x. omega arith), ne_eqb i (last_of k block) (λ x. omega (arith, last-from k block))) refl

pub with-number-in : (list : ℕ → ℤ) (k : ℕ) (block : Bool) (z : ℤ) (i : ℕ) → k ≤ i → i ≤ last_of k block → with_number list k (last_of k block) z i ≡ z
unfolding put last_of
with-number-in list k true z i h l =
    test (eqb i k) (λ t. rw t refl) (λ t. let e : i ≡ k + 1 = omega (arith, eqb-false i k t) in rw (t, e, eq-eqb (k + 1) (k + 1) refl) refl)
with-number-in list k false z i h l = let e : i ≡ k = omega arith in rw (e, eq-eqb k k refl) refl

-- a pivot by its kind and by the row, from 0, that its number names
pub pivot-is : (rows before : ℕ → ℕ) (k : ℕ) (z : ℤ) (block : Bool) (p : ℕ) → is_negative z ≡ block → unsigned_abs z ≡ p + 1
    → past_pivot (record { rows = rows; blocks = before }) k z ≡ record { rows = swapped rows (last_of k block) p; blocks = step_bytes before k block }
unfolding past_pivot step_puts
pivot-is rows before k z block p sign size = let less : unsigned_abs z - 1 ≡ p = omega arith in rw (sign, less) refl

-- ---- to LAPACK, and back

-- an order of n rows and block bytes that refusals 26 and 16 do not meet
pub record Sound (n : ℕ) (order blocks : ℕ → ℕ) : Type 0 where
  pub inside : (i : ℕ) → i < n → order i < n
  pub apart : (i j : ℕ) → i < n → j < n → order i ≡ order j → i ≡ j
  pub paired : Paired n blocks

pub sound-lists : (n : ℕ) (order blocks : List ℕ) → check_order n (naturals order) ≡ Ok tt → check_bytes blocks ≡ Ok tt → length blocks ≡ n
    → Sound n (naturals order) (naturals blocks)
sound-lists n order blocks o b l = record {
  inside = order-inside (naturals order) n o;
  apart = order-apart (naturals order) n o;
  paired = rw l at (bytes-paired blocks b);
}

module _ (n : ℕ) (order blocks : ℕ → ℕ) (w : Sound n order blocks) where
  -- where the row stands that the order has at e
  pub place-in : (e : ℕ) (rows : ℕ → ℕ) → e < n → Standing n order e rows
      → (e ≤ place_from rows (order e) (n - e) e) × (place_from rows (order e) (n - e) e < n) × (rows (place_from rows (order e) (n - e) e) ≡ order e)
  place-in e rows h s =
      let q = s.permutes.inverse (order e) in
      let there : rows q ≡ order e = s.permutes.right (order e) in
      let few : q < n = below q there in
      let late : e ≤ q = after q few there in
      let f = place-found rows (order e) (n - e) e q late (omega arith) there in
      (f.0, omega (arith, f.1), f.2)
    where
      below : (q : ℕ) → rows q ≡ order e → q < n
      below q t =
          test (ltb q n) (λ l. ltb-true q n l)
          (λ l. let fixed : rows q ≡ q = s.permutes.fixes q (ltb-false q n l) in omega (arith, w.inside e h, ltb-false q n l))

      after : (q : ℕ) → q < n → rows q ≡ order e → e ≤ q
      after q l t = test (ltb q e) (λ b. let same : q ≡ e = w.apart q e l h (sym (s.placed q (ltb-true q e b)) ∙ t) in omega arith) (λ b. ltb-false q e b)

  -- the exchange puts one more row in its place
  pub standing-past : (e p : ℕ) (rows : ℕ → ℕ) → e ≤ p → p < n → rows p ≡ order e → Standing n order e rows → Standing n order (e + 1) (swapped rows e p)
  standing-past e p rows h l t s = record {
    permutes = swapped-permutes n rows e p (omega arith) l s.permutes;
    placed = λ i b. cmp i e (λ c. swapped-before rows e p i h c ∙ s.placed i c)
        (λ c. ap (swapped rows e p) c ∙ swapped_at rows e p ∙ t ∙ ap order (sym c)) (λ c. absurd (omega arith));
  }

  -- a block whose first row stands in its place: so do the rows before its last column
  pub standing-last : (k : ℕ) (block : Bool) (rows : ℕ → ℕ) → stands_first block rows order k ≡ true → Standing n order k rows
      → Standing n order (last_of k block) rows
  unfolding last_of
  standing-last k false rows f s = s
  standing-last k true rows f s = record {
    permutes = s.permutes;
    placed = λ i b. cmp i k (λ c. s.placed i c) (λ c. ap rows c ∙ here ∙ ap order (sym c)) (λ c. absurd (omega arith));
  }
    where
      here : rows k ≡ order k
      here = eqb-true (rows k) (order k) f

  pub last-in : (k : ℕ) → k < n → last_of k (begins blocks k) < n
  unfolding last_of
  last-in k h = test (begins blocks k) (λ t. rw t (w.paired.room k h (eqb-true (blocks k) 1 t))) (λ t. rw t h)

  -- where the pivot at k ends, and the row, by its place, that is exchanged with its last column
  abbrev pub last_column : ℕ → ℕ
  last_column k = last_of k (begins blocks k)

  abbrev pub partner : ℕ → (ℕ → ℕ) → ℕ
  partner k rows = place_from rows (order (last_column k)) (n - last_column k) (last_column k)

  -- past the pivot at k
  abbrev pub past_listed : ℕ → Listing → Listing
  past_listed k s =
      record {
        rows = swapped s.rows (last_column k) (partner k s.rows);
        list = with_number s.list k (last_column k) (number_of (begins blocks k) (partner k s.rows));
      }

  -- a step that was taken: the block's first row stood in its place
  pub record ListedOn (k l : ℕ) (s t : Listing) : Type 0 where
    pub in_place : stands_first (begins blocks k) s.rows order k ≡ true
    pub next : l ≡ last_column k + 1
    pub made : t ≡ past_listed k s

  pub listed-on : (k l : ℕ) (s t : Listing) → pivot_listed n order blocks k s ≡ Ok (l, t) → ListedOn k l s t
  unfolding pivot_listed
  listed-on k l s t e =
      test (stands_first (begins blocks k) s.rows order k)
      (λ f. let y : (l, t) ≡ (last_column k + 1, past_listed k s) = same-ok (l, t) (last_column k + 1, past_listed k s) (sym e ∙ rw f refl) in
      record { in_place = f; next = ap (λ (x : ℕ × Listing). x.0) y; made = ap (λ (x : ℕ × Listing). x.1) y })
      (λ f. absurd (let z : Err (BlockRow (record { 0 = k })) ≡ Ok (l, t) = rw f at e in let v : ◌≡◌ {A = ℕ} 0 1 = cc in omega arith))

  -- so a walk goes up
  pub listed-up : (k l : ℕ) (s t : Listing) → pivot_listed n order blocks k s ≡ Ok (l, t) → k < l
  listed-up k l s t e = let o = listed-on k l s t e in omega (arith, o.next, last-from k (begins blocks k))

  -- a walk that ends well took a pivot at k and went on
  record Took (m k : ℕ) (s made : Listing) : Type 0 where
    in_place : stands_first (begins blocks k) s.rows order k ≡ true
    rest : walk n (pivot_listed n order blocks) m (last_column k + 1) (past_listed k s) ≡ Ok made

  took_on : (m k : ℕ) (s made : Listing) → k < n → walk n (pivot_listed n order blocks) (suc m) k s ≡ Ok made → Took m k s made
  unfolding pivot_listed goes
  took_on m k s made h x =
      let turn = walk-turn n (pivot_listed n order blocks) m k s h in
      test (stands_first (begins blocks k) s.rows order k)
      (λ t. record { in_place = t; rest = sym (turn ∙ rw t refl) ∙ x })
      (λ t. absurd (let z : Err (BlockRow (record { 0 = k })) ≡ Ok made = sym (turn ∙ rw t refl) ∙ x in let v : ◌≡◌ {A = ℕ} 0 1 = cc in omega arith))

  -- the numbers before k are as they were
  listed-kept : (m k : ℕ) (s made : Listing) → walk n (pivot_listed n order blocks) m k s ≡ Ok made → (i : ℕ) → i < k → made.list i ≡ s.list i
  unfolding walk
  listed-kept zero k s made x i l = ap (λ (y : Listing). y.list i) (same-ok made s (sym x))
  listed-kept (suc m) k s made x i l =
      test (ltb k n)
      (λ t. let o = took_on m k s made (ltb-true k n t) x in
      listed-kept m (last_column k + 1) (past_listed k s) made o.rest i (omega (arith, last-from k (begins blocks k)))
      ∙ with-number-before s.list k (begins blocks k) (number_of (begins blocks k) (partner k s.rows)) i l)
      (λ t. ap (λ (y : Listing). y.list i) (same-ok made s (sym x ∙ walk-over n (pivot_listed n order blocks) (suc m) k s (ltb-false k n t))))

  -- what the walk back makes of the list: the order, and the block bytes from k on, those before it as they were
  pub record Again (k : ℕ) (before : ℕ → ℕ) (r : Result Arranged Refusal) : Type 0 where
    pub made : Arranged
    pub is : r ≡ Ok made
    pub rows : (i : ℕ) → i < n → made.rows i ≡ order i
    pub kept : (i : ℕ) → i < k → made.blocks i ≡ before i
    pub bytes : (i : ℕ) → k ≤ i → i < n → made.blocks i ≡ blocks i

  -- g is the list, by what it holds at its n columns; v is what the walk to LAPACK goes on with at k
  pub forth-back : (m k : ℕ) (v made : Listing) (g : ℕ → ℤ) (before : ℕ → ℕ) → Standing n order k v.rows → k ≤ n → n - k ≤ m
      → walk n (pivot_listed n order blocks) m k v ≡ Ok made → ((i : ℕ) → i < n → g i ≡ made.list i)
      → Again k before (walk n (pivot_read n g) m k (record { rows = v.rows; blocks = before }))
  unfolding walk
  forth-back zero k v made g before s h f x same = record {
    made = record { rows = v.rows; blocks = before };
    is = refl;
    rows = λ i l. s.placed i (omega arith);
    kept = λ i l. refl;
    bytes = λ i l o. absurd (omega arith);
  }
  forth-back (suc m) k v made g before s h f x same = test (ltb k n) (more (λ l u b y a z c. forth-back m l u made g b y a z c same)) ended
    where
      block : Bool
      block = begins blocks k

      e : ℕ
      e = last_column k

      p : ℕ
      p = partner k v.rows

      now : Arranged
      now = record { rows = v.rows; blocks = before }

      ended : ltb k n ≡ false → Again k before (walk n (pivot_read n g) (suc m) k now)
      ended t = record {
        made = now;
        is = walk-over n (pivot_read n g) (suc m) k now (ltb-false k n t);
        rows = λ i l. s.placed i (omega (arith, ltb-false k n t));
        kept = λ i l. refl;
        bytes = λ i l o. absurd (omega (arith, ltb-false k n t));
      }

      more : ((l : ℕ) (u : Listing) (b : ℕ → ℕ) → Standing n order l u.rows → l ≤ n → n - l ≤ m → walk n (pivot_listed n order blocks) m l u ≡ Ok made
          → Again l b (walk n (pivot_read n g) m l (record { rows = u.rows; blocks = b })))
          → ltb k n ≡ true → Again k before (walk n (pivot_read n g) (suc m) k now)
      more next t =
          let here : k < n = ltb-true k n t in
          let inn : e < n = last-in k here in
          let took = took_on m k v made here x in
          let standing = standing-last k block v.rows took.in_place s in
          let found = place-in e v.rows inn standing in
          let noted : (i : ℕ) → k ≤ i → i ≤ e → g i ≡ number_of block p
          = λ i l o. same i (omega arith) ∙ listed-kept m (e + 1) (past_listed k v) made took.rest i (omega arith)
          ∙ with-number-in v.list k block (number_of block p) i l o in
          let own : g k ≡ number_of block p = noted k (omega arith) (last-from k block) in
          let sign : is_negative (g k) ≡ block = ap is_negative own ∙ negative-number block p in
          let size : unsigned_abs (g k) ≡ p + 1 = ap unsigned_abs own ∙ size-number block p in
          let faultless : Faultless n g k
          = record {
            pair = λ y. two (sym sign ∙ y) noted inn own;
            low = rw sign (omega (arith, found.0));
            high = omega (arith, found.1);
          } in
          let after : past_pivot now k (g k) ≡ record { rows = swapped v.rows e p; blocks = step_bytes before k block }
          = pivot-is v.rows before k (g k) block p sign size in
          let goes : walk n (pivot_read n g) (suc m) k now
          ≡ walk n (pivot_read n g) m (e + 1) (record { rows = swapped v.rows e p; blocks = step_bytes before k block })
          = read-past n g m k now here faultless ∙ rw (sign, after) refl in
          let again = next (e + 1) (past_listed k v) (step_bytes before k block) (standing-past e p v.rows found.0 found.1 found.2 standing) (omega arith)
          (omega (arith, last-from k block)) took.rest in
          record {
            made = again.made;
            is = goes ∙ again.is;
            rows = again.rows;
            kept = λ i l. again.kept i (omega (arith, last-from k block)) ∙ bytes-before before k block i l;
            bytes = λ i l o. cmp i (e + 1) (λ c. again.kept i c ∙ own_bytes i l (omega arith) o)
                (λ c. again.bytes i (omega arith) o) (λ c. again.bytes i (omega arith) o);
          }
        where
          two : block ≡ true → ((i : ℕ) → k ≤ i → i ≤ e → g i ≡ number_of block p) → e < n → g k ≡ number_of block p → (k + 1 < n) × (g (k + 1) ≡ g k)
          two y noted inn own = (omega (arith, last_block k block y), noted (k + 1) (omega arith) (omega (arith, last_block k block y)) ∙ sym own)

          -- the bytes of the pivot itself
          own_bytes : (i : ℕ) → k ≤ i → i ≤ e → i < n → step_bytes before k block i ≡ blocks i
          own_bytes i l c o =
              cmp i k (λ y. absurd (omega arith)) (λ y. ap (step_bytes before k block) y ∙ bytes-at before k block ∙ first ∙ ap blocks (sym y)) second
            where
              first : byte_of block ≡ blocks k
              first = test block (λ y. rw y (sym (eqb-true (blocks k) 1 y)))
                  (λ y. rw y (omega (arith, w.paired.byte k (ltb-true k n t), eqb-false (blocks k) 1 y)))

              second : k < i → step_bytes before k block i ≡ blocks i
              second y = test block
                  (λ b. let at : i ≡ k + 1 = omega (arith, last_block k block b) in
                  rw (at, b) (bytes-second before k ∙ sym (w.paired.apart k (ltb-true k n t) (eqb-true (blocks k) 1 b))))
                  (λ b. absurd (omega (arith, last-single k block b)))
