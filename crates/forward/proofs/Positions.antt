-- Laws of forward substitution by positions: what each position ends as, and that the columns in turn make the same. Assumes nothing.
use Prim.Native.Nat.{ℕ, zero, suc, ◌+◌, ◌-◌, ◌*◌, ◌/◌, ◌<◌, ◌≤◌}
use mathlib.Core.Path.{◌≡◌, refl, sym, ◌∙◌, ap, fun_ext}
use mathlib.Core.Bool.{Bool, false}
use mathlib.Core.List.{List}
use native.Mathlib.Omega.{arith}
use borrow.Author.Tests.{ne_eqb, lt-leb, leb-true, leb-false, eqb-true, eqb-false, ltb-true, ltb-false}
use lib.Dec.{ltb, leb, eqb}
use lib.Ieee.{Float}
use Rattle.model.specs.Scalar.{◌⊗◌}
use Rattle.model.specs.Matrix.{Row, Mat, view, put}
use Rattle.model.specs.Step.{past_of}
use Rattle.model.specs.Solve.{has_entry, less_earlier, forward_at, forward_from}
use Rattle.model.proofs.Cases.{test}
use Rattle.model.proofs.Past.{past-above}
use Rattle.model.proofs.Terms.{earlier-there}
use Rattle.kernels.proofs.Laws.{put-here, put-other}
use Rattle.forward.specs.Forward.{columns_lost}
use Rattle.forward.proofs.Together.{lost-in, lost-before, columns-past, all-columns}

-- positions with no entry take nothing
earlier-none : (there : ℕ → Bool) (f : Row) (i d : ℕ) (v : Float) → ((j : ℕ) → i ≤ j → there j ≡ false)
    → less_earlier there f (i + d) v ≡ less_earlier there f i v
unfolding less_earlier
earlier-none there f i zero v h = let e : i + zero ≡ i = omega arith in rw e
earlier-none there f i (suc d) v h = let e : i + suc d ≡ suc (i + d) = omega arith in rw (e, h (i + d) (omega arith)) (earlier-none there f i d v h)

module _ (blocks : ℕ → ℕ) (l : Mat) where
  -- positions before k and past the last stay
  forward-before : (m k : ℕ) (y : Row) (i : ℕ) → i < k → forward_from blocks l m k y i ≡ y i
  unfolding forward_from put
  forward-before zero k y i h = refl
  forward-before (suc m) k y i h = forward-before m (k + 1) _ i (omega arith) ∙ rw (ne_eqb i k (λ e. omega arith))

  forward-past : (m k : ℕ) (y : Row) (i : ℕ) → k + m ≤ i → forward_from blocks l m k y i ≡ y i
  unfolding forward_from put
  forward-past zero k y i h = refl
  forward-past (suc m) k y i h = forward-past m (k + 1) _ i (omega arith) ∙ rw (ne_eqb i k (λ e. omega arith))

  -- a position ends as its own number less L times what the earlier ones end as
  pub forward-own : (m k : ℕ) (y : Row) (i : ℕ) → k ≤ i → i < k + m
      → forward_from blocks l m k y i ≡ less_earlier (λ j. has_entry blocks i j) (λ j. l i j ⊗ forward_from blocks l m k y j) i (y i)
  unfolding forward_from
  forward-own zero k y i h g = absurd (omega arith)
  forward-own (suc m) k y i h g =
      let next = put y k (forward_at blocks l y k) in
      test (eqb i k)
      (λ t. let e : i ≡ k = eqb-true i k t in
      rw e (forward-before m (k + 1) next k (omega arith) ∙ put-here y k _
      ∙ earlier-there _ _ _ k (y k) (λ j o t. ap (λ (x : Float). l k j ⊗ x)
      (sym (forward-before m (k + 1) next j (omega arith) ∙ put-other y k j _ (λ e. omega arith))))))
      (λ t. forward-own m (k + 1) next i (omega (arith, eqb-false i k t)) (omega arith)
      ∙ ap (λ (x : Float). less_earlier (λ j. has_entry blocks i j) (λ j. l i j ⊗ forward_from blocks l m (k + 1) next j) i x)
      (put-other y k i _ (eqb-false i k t)))

  -- after k columns a row has lost its terms of the first k positions
  columns-are : (n k : ℕ) (y : Row) (i : ℕ) → i < n → k ≤ n
      → columns_lost blocks l n k 0 y i ≡ less_earlier (λ j. has_entry blocks i j) (λ j. l i j ⊗ forward_from blocks l n 0 y j) k (y i)
  unfolding columns_lost less_earlier
  columns-are n zero y i h g = refl
  columns-are n (suc k) y i h g =
      let z : 0 + k ≡ k = omega arith in
      let C = columns_lost blocks l n k 0 y in
      let own : C k ≡ forward_from blocks l n 0 y k
      = columns-are n k y k (omega arith) (omega arith) ∙ sym (forward-own n 0 y k (omega arith) (omega arith)) in
      test (leb (past_of blocks k) i)
      (λ t. rw (z, t) (lost-in blocks l n k C i (leb-true (past_of blocks k) i t) h ∙ rw (own, columns-are n k y i h (omega arith))))
      (λ t. rw (z, t) (lost-before blocks l n k C i (leb-false (past_of blocks k) i t) ∙ columns-are n k y i h (omega arith)))

  -- all columns in turn make what the positions make
  pub columns-forward : (n : ℕ) (y : Row) → columns_lost blocks l n n 0 y ≡ forward_from blocks l n 0 y
  columns-forward n y =
      fun_ext λ i.
      test (ltb i n)
      (λ t. let h : i < n = ltb-true i n t in
      let e : n ≡ i + (n - i) = omega arith in
      columns-are n n y i h (omega arith)
      ∙ ap (λ (m : ℕ). less_earlier (λ j. has_entry blocks i j) (λ j. l i j ⊗ forward_from blocks l n 0 y j) m (y i)) e
      ∙ earlier-none (λ j. has_entry blocks i j) _ i (n - i) (y i) (λ j o. lt-leb (past_of blocks j) i (omega (arith, past-above blocks j)))
      ∙ sym (forward-own n 0 y i (omega arith) (omega arith)))
      (λ t. let h : n ≤ i = ltb-false i n t in columns-past blocks l n n 0 y i h ∙ sym (forward-past n 0 y i (omega arith)))

-- as the code has it: fours, then the rest; m is the vector's length after the fours
pub is-forward : (blocks : ℕ → ℕ) (gs : List Float) (n m : ℕ) (x y z : Row) → m ≡ n → y ≡ columns_lost blocks (view n gs) n (4 * (n / 4)) 0 x
    → z ≡ columns_lost blocks (view m gs) n (n - 4 * (n / 4)) (4 * (n / 4)) y → z ≡ forward_from blocks (view n gs) n 0 x
is-forward blocks gs n m x y z e p q = all-columns blocks gs n m (4 * (n / 4)) x y z e (omega arith) p q ∙ columns-forward blocks (view n gs) n x
