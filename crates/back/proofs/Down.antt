-- Laws of sums down a column: one row more, in two parts, with other numbers, and the loops that form them. Assumes nothing.
use Prim.Native.Nat.{ℕ, zero, suc, ◌+◌, ◌-◌, ◌*◌, ◌<◌, ◌≤◌}
use mathlib.Core.Path.{◌≡◌, refl, sym, ◌∙◌, ap}
use mathlib.Core.Bool.{Bool, false}
use mathlib.Core.List.{List}
use native.Mathlib.Omega.{arith}
use native.Mathlib.Nat.{le_antisymm}
use borrow.Author.Tests.{le-leb, lt-leb}
use lib.ListN.{get_or}
use lib.Ieee.{Float, nan}
use Rattle.model.specs.Scalar.{◌⊖◌, ◌⊗◌}
use Rattle.model.specs.Matrix.{Row, column_start, view, vec}
use Rattle.model.specs.Step.{past_of}
use Rattle.model.specs.Solve.{less_later}
use Rattle.model.proofs.Past.{past-above}
use Rattle.grid.proofs.Laws.{col-in, view-at}
use Rattle.forward.specs.Forward.{BelowPre}
use Rattle.back.specs.Back.{fallen, fallen_whole}

-- ---- rows of a column are there; i is the row after the one that is read

-- four columns, of which the u-th begins at `from u`, are there
pub four-there : (n k lo len : ℕ) (from : ℕ → ℕ) → BelowPre n k lo len → ((u : ℕ) → u < 4 → from u ≡ 0 + column_start n (k + u))
    → (from 0 + n ≤ len) × (from 1 + n ≤ len) × (from 2 + n ≤ len) × (from 3 + n ≤ len)
four-there n k lo len from w e = (there 0 (omega arith), there 1 (omega arith), there 2 (omega arith), there 3 (omega arith))
  where
    there : (u : ℕ) → u < 4 → from u + n ≤ len
    there u h = omega (arith, e u h, col-in n n (k + u) len w.area (omega (arith, w.columns)))

-- ---- any sum that goes down

-- in two parts: the later rows first
pub later-append : (there : ℕ → Bool) (f : Row) (a b j : ℕ) (v : Float)
    → less_later there f (a + b) j v ≡ less_later there f a j (less_later there f b (j + a) v)
unfolding less_later
later-append there f zero b j v =
    let e : zero + b ≡ b = omega arith in
    let g : j + zero ≡ j = omega arith in
    rw (e, g)
later-append there f (suc a) b j v =
    let e : suc a + b ≡ suc (a + b) = omega arith in
    let g : j + suc a ≡ j + 1 + a = omega arith in
    rw (e, g, later-append there f a b (j + 1) v)

-- other entries and terms that are the same in these rows
pub later_same : (there here : ℕ → Bool) (f g : Row) (m j : ℕ) (v : Float) → ((i : ℕ) → j ≤ i → i < j + m → (there i ≡ here i) × (f i ≡ g i))
    → less_later there f m j v ≡ less_later here g m j v
unfolding less_later
later_same there here f g zero j v h = refl
later_same there here f g (suc m) j v h =
    let first = h j (omega arith) (omega arith) in
    rw (first.0, first.1, later_same there here f g m (j + 1) v (λ i o p. h i (omega arith) (omega arith)))

-- rows with no entry take nothing
later-none : (there : ℕ → Bool) (f : Row) (m j : ℕ) (v : Float) → ((i : ℕ) → j ≤ i → i < j + m → there i ≡ false) → less_later there f m j v ≡ v
unfolding less_later
later-none there f zero j v h = refl
later-none there f (suc m) j v h = rw (h j (omega arith) (omega arith)) (later-none there f m (j + 1) v (λ i o p. h i (omega arith) (omega arith)))

-- ---- one column by its entries: s is the sum so far, of the rows from i on before hi

module _ (blocks : ℕ → ℕ) (gs xs : List Float) (n k : ℕ) where
  pub down-none : (hi : ℕ) (v : Float) → v ≡ fallen blocks (view n gs) (vec xs) k (hi - hi) hi v
  unfolding fallen less_later
  down-none hi v = let e : hi - hi ≡ 0 = omega arith in rw e

  pub down_step : (hi i p s : ℕ) (v w : Float) → s ≡ column_start n k → p ≡ past_of blocks k → hi ≤ n → i ≤ hi → p < i
      → w ≡ fallen blocks (view n gs) (vec xs) k (hi - i) i v
      → w ⊖ get_or gs (i - 1 + s) nan ⊗ get_or xs (i - 1) nan ≡ fallen blocks (view n gs) (vec xs) k (hi - (i - 1)) (i - 1) v
  unfolding fallen less_later vec
  down_step hi i p s v w es ep hn h g e =
      let a : hi - (i - 1) ≡ suc (hi - i) = omega arith in
      let b : i - 1 + 1 ≡ i = omega arith in
      rw (a, b, le-leb (past_of blocks k) (i - 1) (omega arith), es, view-at n gs (i - 1) k (omega arith), e)

  -- down to the pivot's end nothing is left to take
  pub down-end : (hi i p : ℕ) (v w : Float) → p ≡ past_of blocks k → past_of blocks k ≤ hi → i ≤ p → p ≤ i
      → w ≡ fallen blocks (view n gs) (vec xs) k (hi - i) i v
      → w ≡ fallen blocks (view n gs) (vec xs) k (hi - (k + 1)) (k + 1) v
  unfolding fallen
  down-end hi i p v w ep q h g e =
      let o : k < p = omega (arith, past-above blocks k) in
      let a : hi - (k + 1) ≡ (i - (k + 1)) + (hi - i) = omega arith in
      let b : k + 1 + (i - (k + 1)) ≡ i = omega arith in
      e ∙ sym (rw (a) (later-append _ _ (i - (k + 1)) (hi - i) (k + 1) v ∙ rw b
      (later-none _ _ (i - (k + 1)) (k + 1) _ (λ r c d. lt-leb (past_of blocks k) r (omega arith)))))

-- ---- one column whole

module _ (gs xs : List Float) (n k : ℕ) where
  pub whole-none : (hi : ℕ) (v : Float) → v ≡ vec xs k → v ≡ fallen_whole (view n gs) (vec xs) k (hi - hi) hi
  unfolding fallen_whole less_later
  whole-none hi v h = let e : hi - hi ≡ 0 = omega arith in rw e h

  pub whole-step : (lo i s : ℕ) (w : Float) → s ≡ 0 + column_start n k → i ≤ n → lo < i → w ≡ fallen_whole (view n gs) (vec xs) k (n - i) i
      → w ⊖ get_or gs (s + (i - 1)) nan ⊗ get_or xs (i - 1) nan ≡ fallen_whole (view n gs) (vec xs) k (n - (i - 1)) (i - 1)
  unfolding fallen_whole less_later vec
  whole-step lo i s w es h g e =
      let a : n - (i - 1) ≡ suc (n - i) = omega arith in
      let b : i - 1 + 1 ≡ i = omega arith in
      let c : s + (i - 1) ≡ i - 1 + k * n = omega arith in
      rw (a, b, c, view-at n gs (i - 1) k (omega arith), e)

  pub whole-end : (lo i : ℕ) (w : Float) → lo ≤ i → i ≤ lo → w ≡ fallen_whole (view n gs) (vec xs) k (n - i) i
      → w ≡ fallen_whole (view n gs) (vec xs) k (n - lo) lo
  whole-end lo i w h g e = e ∙ ap (λ (r : ℕ). fallen_whole (view n gs) (vec xs) k (n - r) r) (le_antisymm g h)
