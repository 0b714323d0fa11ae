-- Laws of the running tally: a turn takes one pivot or one block, and what is counted is the columns passed. Assumes nothing.
use mathlib.Core.Path.{◌≡◌, refl, ◌∙◌, ap}
use mathlib.Core.List.{List}
use Prim.Native.Nat.{ℕ, zero, suc, ◌+◌, ◌-◌, ◌≤◌, ◌<◌}
use native.Mathlib.Omega.{arith}
use borrow.Author.Tests.{lt-ltb, le-ltb, ltb-true, eqb-true}
use lib.Dec.{ltb}
use lib.ListN.{length}
use lib.Ieee.{Float, lt, le}
use Rattle.model.specs.Scalar.{◌⊕◌, zero_f}
use Rattle.model.specs.Matrix.{Row, naturals}
use Rattle.model.specs.Step.{begins, past_of, block_at, diagonal_at}
use Rattle.model.specs.Inertia.{one_counted, two_counted, pivot_counted, tallied_from}
use Rattle.model.specs.declared.Block.{Block}
use Rattle.model.specs.declared.Tally.{Tally}
use Rattle.model.proofs.Cases.{test}
use Rattle.model.proofs.Past.{past-above}
use Rattle.diagonal.specs.Diagonal.{PivotPre}
use Rattle.inertia.specs.Count.{counted_of, TallyPre}
use Rattle.model.specs.declared.Diagonal.{Diagonal}
use Rattle.model.proofs.Bytes.{bytes-paired}

-- ---- how many were counted

-- the columns that a tally has counted
abbrev pub total : Tally → ℕ
total t = t.positive + t.negative + t.zero

one-total : (t : Tally) (d : Float) → total (one_counted t d) ≡ total t + 1
unfolding one_counted
one-total t d = test (lt zero_f d) (λ p. rw p (omega arith)) (λ p. test (lt d zero_f) (λ n. rw (p, n) (omega arith)) (λ n. rw (p, n) (omega arith)))

two-total : (t : Tally) (b : Block) → total (two_counted t b) ≡ total t + 2
unfolding two_counted
two-total t b =
    test (lt b.det zero_f) (λ n. rw n (omega arith)) (λ n. test (le zero_f (b.d11 ⊕ b.d22))
    (λ u. test (lt zero_f b.det) (λ p. rw (n, u, p) (omega arith)) (λ p. rw (n, u, p) (omega arith)))
    (λ u. test (lt zero_f b.det) (λ p. rw (n, u, p) (omega arith)) (λ p. rw (n, u, p) (omega arith))))

-- ---- what the lists have

pub pivot-pre : (ds subs : List Float) (bs : List ℕ) (k : ℕ) → TallyPre ds subs bs → k < length ds → PivotPre k (length ds) (length subs) bs
pivot-pre ds subs bs k w h = record {
  d = h;
  sub = omega (arith, w.sub);
  byte = omega (arith, w.blocks);
  next = λ o. omega (arith, w.blocks, (bytes-paired bs w.check).room k (omega (arith, w.blocks)) o);
}

pub past-within : (ds subs : List Float) (bs : List ℕ) (k l : ℕ) → TallyPre ds subs bs → k < length ds → l ≡ past_of (naturals bs) k → l ≤ length ds
unfolding past_of
past-within ds subs bs k l w h e =
    test (begins (naturals bs) k)
    (λ t. let r : k + 1 < length ds = (pivot-pre ds subs bs k w h).next (eqb-true (naturals bs k) 1 t) in rw (e, t) (omega arith))
    (λ t. rw (e, t) (omega arith))

pub past-less : (f : ℕ → ℕ) (n k l : ℕ) → k < n → l ≡ past_of f k → n - l < n - k
past-less f n k l h e = omega (arith, past-above f k)

-- ---- a turn

module _ (d sub : Row) (blocks : ℕ → ℕ) where
  counted-pivot : (k : ℕ) (t : Tally) → counted_of t (diagonal_at d sub blocks k) ≡ pivot_counted d sub blocks k t
  unfolding counted_of diagonal_at pivot_counted
  counted-pivot k t = test (begins blocks k) (λ b. rw b) (λ b. rw b)

  pub total-step : (k l : ℕ) (t u : Tally) (p : Diagonal) → p ≡ diagonal_at d sub blocks k → u ≡ counted_of t p → l ≡ past_of blocks k → total t ≡ k → total u ≡ l
  unfolding counted_of diagonal_at past_of
  total-step k l t u p e f g h =
      test (begins blocks k)
      (λ b. ap total f ∙ rw (e, g, b) (omega (arith, two-total t (block_at d sub k))))
      (λ b. ap total f ∙ rw (e, g, b) (omega (arith, one-total t (d k))))

  -- a block spends one turn for two columns, so what is left of the turns does not matter
  fuel : (n m o k : ℕ) (t : Tally) → n - k ≤ m → n - k ≤ o → tallied_from d sub blocks n m k t ≡ tallied_from d sub blocks n o k t
  unfolding tallied_from
  fuel n zero zero k t h g = refl
  fuel n zero (suc o) k t h g = rw (le-ltb k n (omega arith))
  fuel n (suc m) zero k t h g = rw (le-ltb k n (omega arith))
  fuel n (suc m) (suc o) k t h g =
      test (ltb k n)
      (λ l. let a : k < past_of blocks k = past-above blocks k in
      let b : k < n = ltb-true k n l in
      rw l (fuel n m o (past_of blocks k) (pivot_counted d sub blocks k t) (omega arith) (omega arith)))
      (λ l. rw l)

  pub tally-none : (n : ℕ) (t : Tally) → tallied_from d sub blocks n (n - 0) 0 t ≡ tallied_from d sub blocks n n 0 t
  tally-none n t = let e : n - 0 ≡ n = omega arith in rw e

  pub tally-step : (n k l : ℕ) (t u w : Tally) (p : Diagonal) → k < n → p ≡ diagonal_at d sub blocks k → u ≡ counted_of t p → l ≡ past_of blocks k
      → tallied_from d sub blocks n (n - k) k t ≡ w → tallied_from d sub blocks n (n - l) l u ≡ w
  unfolding tallied_from
  tally-step n k l t u w p h e f g v =
      let m : n - k ≡ suc (n - (k + 1)) = omega arith in
      let a : k < past_of blocks k = past-above blocks k in
      let b : u ≡ pivot_counted d sub blocks k t = rw (f, e) (counted-pivot k t) in
      rw (g, b) (fuel n (n - past_of blocks k) (n - (k + 1)) (past_of blocks k) (pivot_counted d sub blocks k t) (omega arith) (omega arith)
      ∙ (rw (m, lt-ltb k n h) at v))

  pub tally-end : (n k : ℕ) (t w : Tally) → n ≤ k → tallied_from d sub blocks n (n - k) k t ≡ w → t ≡ w
  unfolding tallied_from
  tally-end n k t w h e = let m : n - k ≡ 0 = omega arith in rw m at e
