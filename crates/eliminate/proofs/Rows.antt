-- Columns make rows: what the sweeps and the pivot's own columns leave is the model's elimination of each row. Assumes nothing.
use Prim.Native.Nat.{ℕ, ◌+◌, ◌<◌, ◌≤◌}
use mathlib.Core.Path.{◌≡◌, refl, sym, ◌∙◌, ap, fun_ext}
use mathlib.Core.Bool.{false, ◌&&◌}
use native.Mathlib.Omega.{arith}
use borrow.Author.Tests.{lt-ltb, le-ltb, le-leb, lt-leb, eq-eqb, ne_eqb, eqb-true, ltb-true, ltb-false}
use lib.Dec.{ltb, leb, eqb}
use lib.Ieee.{Float}
use Rattle.model.specs.Scalar.{◌⊗◌, reciprocal_of}
use Rattle.model.specs.Matrix.{Row, Mat, within, put, put_at, with_column}
use Rattle.model.specs.Step.{one, two, eliminated}
use Rattle.model.specs.Head.{head_one, head_two, kept_one, kept_two}
use Rattle.model.specs.declared.Block.{Block}
use Rattle.model.proofs.Cases.{test, cmp, no}
use Rattle.grid.specs.Rules.{column_of}
use Rattle.kernels.specs.Rules.{times, combined}
use Rattle.whole.proofs.Masked.{within-before, within-past, one_alike, two-alike, head_one-in, head_one-diagonal, head_one-before, head_one-past}
use Rattle.whole.proofs.Masked.{firsts, seconds, head_two-in, head_two-before, head_two-past}
use Rattle.eliminate.specs.Eliminate.{region, swept_one, swept_two, applied_one, applied_two}
use Rattle.eliminate.proofs.Region.{region-row, sweep-one-source, sweep-two-source}

-- ---- where a row's elimination ends

-- of the columns before ke, a panel's own row has those up to its own
own-column : (c ke a : ℕ) → a < ke → (b : ℕ) → within c ke b && leb b a ≡ within c (a + 1) b
own-column c ke a h b =
    test (leb c b)
    (λ p. rw p (cmp b a
    (λ l. rw (lt-ltb b ke (omega arith), le-leb b a (omega arith), lt-ltb b (a + 1) (omega arith)))
    (λ e. rw (e, lt-ltb a ke h, le-leb a a (omega arith), lt-ltb a (a + 1) (omega arith)))
    (λ g. rw (lt-leb b a g, le-ltb b (a + 1) (omega arith), no (ltb b ke)))))
    (λ p. rw p)

-- ---- a 1x1

pub one-applied : (M P Q : Mat) (m : Row) (k ke lo hi : ℕ) (d r : Float) → r ≡ reciprocal_of d → P ≡ swept_one M m k ke lo hi
    → Q ≡ with_column P k lo hi (times (column_of P k) r)
    → Q ≡ applied_one M m k ke lo hi d
unfolding applied_one
one-applied M P Q m k ke lo hi d r er p q = q ∙ rw (sweep-one-source M P m k ke lo hi p, p, er)

one-row : (M : Mat) (m : Row) (k kp ke lo hi : ℕ) (d : Float) (a b end : ℕ) → lo ≤ a → a < hi
    → within (k + 1) ke b && leb b a ≡ within (k + 1) end b → applied_one M m k ke lo hi d a b ≡ eliminated (one k kp d m) end (M a) b
unfolding applied_one swept_one with_column times column_of eliminated
one-row M m k kp ke lo hi d a b end h g w =
    rw (le-leb lo a h, lt-ltb a hi g, region-row M (k + 1) ke lo hi _ a b end h g w) (test (eqb b k) (λ x. rw x) (λ x. rw x))

one_out : (M : Mat) (m : Row) (k ke lo hi : ℕ) (d : Float) (a b : ℕ) → within lo hi a ≡ false → applied_one M m k ke lo hi d a b ≡ M a b
unfolding applied_one swept_one region with_column
one_out M m k ke lo hi d a b w = rw (w, no (leb b a), no (within (k + 1) ke b), no (eqb b k))

module _ (M I I' : Mat) (k ke : ℕ) (d r : Float) (er : r ≡ reciprocal_of d) (ei : I' ≡ with_column I k (k + 1) ke (times (column_of M k) r)) where
  -- the multipliers kept
  pub one_kept : I' ≡ kept_one ke k d M I
  unfolding kept_one times column_of
  one_kept = ei ∙ rw er

  kept_at : (j : ℕ) → k < j → j < ke → column_of I' k j ≡ M j k ⊗ reciprocal_of d
  unfolding column_of kept_one with_column
  kept_at j h g = ap (λ (X : Mat). X j k) one_kept ∙ rw (eq-eqb k k refl, le-leb (k + 1) j (omega arith), lt-ltb j ke g)

  -- the panel's own rows
  pub one-head : (P Q : Mat) → P ≡ applied_one M (column_of I' k) k ke (k + 1) ke d → Q ≡ put_at P k k d → Q ≡ head_one ke k d M
  unfolding put_at put
  one-head P Q p q =
      fun_ext λ i. fun_ext λ j. ap (λ (X : Mat). X i j) q ∙
      cmp k i
      (λ l. test (ltb i ke)
      (λ t. let u : i < ke = ltb-true i ke t in
      off-row i j (λ x. omega arith) ∙ ap (λ (X : Mat). X i j) p
      ∙ one-row M (column_of I' k) k k ke (k + 1) ke d i j (i + 1) (omega arith) u (own-column (k + 1) ke i u j)
      ∙ one_alike k k k (i + 1) d (column_of I' k) (λ b. M b k ⊗ reciprocal_of d) (M i) (M i) j refl refl (λ h g. kept_at j h (omega arith))
      ∙ sym (head_one-in ke k d M i j l u))
      (λ t. let u : ke ≤ i = ltb-false i ke t in
      off-row i j (λ x. omega arith) ∙ left i j (within-past (k + 1) ke i u) ∙ sym (head_one-past ke k d M i j l u)))
      (λ e. rw (← e) (diagonal j ∙ sym (head_one-diagonal ke k d M j)))
      (λ l. off-row i j (λ x. omega arith) ∙ left i j (within-before (k + 1) ke i (omega arith)) ∙ sym (head_one-before ke k d M i j l))
    where
      left : (i j : ℕ) → within (k + 1) ke i ≡ false → P i j ≡ M i j
      left i j w = ap (λ (X : Mat). X i j) p ∙ one_out M (column_of I' k) k ke (k + 1) ke d i j w

      off-row : (i j : ℕ) → (i ≡ k → ⊥) → put_at P k k d i j ≡ P i j
      off-row i j h = rw (ne_eqb i k h)

      diagonal : (j : ℕ) → put_at P k k d k j ≡ put (M k) k d j
      diagonal j = rw (eq-eqb k k refl) (test (eqb j k) (λ x. rw x) (λ x. rw x (left k j (within-before (k + 1) ke k (omega arith)))))

-- ---- a block

pub two-applied : (M P Q : Mat) (m1 m2 : Row) (k ke lo hi : ℕ) (b : Block) (r : Float) → r ≡ reciprocal_of b.det → P ≡ swept_two M m1 m2 k ke lo hi
    → Q ≡ with_column (with_column P k lo hi (combined (column_of P k) (column_of P (k + 1)) b.d22 b.d21 r)) (k + 1) lo hi
    (combined (column_of P (k + 1)) (column_of P k) b.d11 b.d21 r)
    → Q ≡ applied_two M m1 m2 k ke lo hi b
unfolding applied_two
two-applied M P Q m1 m2 k ke lo hi b r er p q =
    q ∙ rw (sweep-two-source M P m1 m2 k ke lo hi k (omega arith) p, sweep-two-source M P m1 m2 k ke lo hi (k + 1) (omega arith) p, p, er)

two-row : (M : Mat) (m1 m2 : Row) (k kp ke lo hi : ℕ) (b : Block) (a c end : ℕ) → lo ≤ a → a < hi
    → within (k + 2) ke c && leb c a ≡ within (k + 2) end c → applied_two M m1 m2 k ke lo hi b a c ≡ eliminated (two k kp b m1 m2) end (M a) c
unfolding applied_two swept_two with_column combined column_of eliminated
two-row M m1 m2 k kp ke lo hi b a c end h g w =
    rw (le-leb lo a h, lt-ltb a hi g, region-row M (k + 2) ke lo hi _ a c end h g w)
    (test (eqb c k)
    (λ x. rw (x, ne_eqb c (k + 1) (λ z. omega (arith, eqb-true c k x))))
    (λ x. test (eqb c (k + 1)) (λ y. rw (x, y)) (λ y. rw (x, y))))

two_out : (M : Mat) (m1 m2 : Row) (k ke lo hi : ℕ) (b : Block) (a c : ℕ) → within lo hi a ≡ false → applied_two M m1 m2 k ke lo hi b a c ≡ M a c
unfolding applied_two swept_two region with_column
two_out M m1 m2 k ke lo hi b a c w = rw (w, no (leb c a), no (within (k + 2) ke c), no (eqb c k), no (eqb c (k + 1)))

module _ (M : Mat) (k ke : ℕ) (b : Block) where
  -- the multipliers kept
  pub two-kept : (I I' I'' : Mat) (r : Float) → r ≡ reciprocal_of b.det
      → I' ≡ with_column I k (k + 2) ke (combined (column_of M k) (column_of M (k + 1)) b.d22 b.d21 r)
      → I'' ≡ with_column I' (k + 1) (k + 2) ke (combined (column_of M (k + 1)) (column_of M k) b.d11 b.d21 r) → I'' ≡ kept_two ke k b M I
  unfolding kept_two combined column_of
  two-kept I I' I'' r er e1 e2 = e2 ∙ rw (e1, er)

  -- the panel's own rows
  pub two-head : (I I' P : Mat) → I' ≡ kept_two ke k b M I → P ≡ applied_two M (column_of I' k) (column_of I' (k + 1)) k ke (k + 2) ke b
      → P ≡ head_two ke k b M
  unfolding column_of kept_two with_column
  two-head I I' P ei p =
      fun_ext λ i. fun_ext λ j. ap (λ (X : Mat). X i j) p ∙
      test (ltb (k + 1) i)
      (λ v. let l : k + 1 < i = ltb-true (k + 1) i v in
      test (ltb i ke)
      (λ w. let u : i < ke = ltb-true i ke w in
      two-row M _ _ k k ke (k + 2) ke b i j (i + 1) (omega arith) u (own-column (k + 2) ke i u j)
      ∙ two-alike k k k (i + 1) b _ _ (firsts k b M) (seconds k b M) (M i) (M i) j refl refl refl (λ h g. first-at j h (omega arith))
      (λ h g. second_at j h (omega arith))
      ∙ sym (head_two-in ke k b M i j l u))
      (λ w. let u : ke ≤ i = ltb-false i ke w in
      two_out M _ _ k ke (k + 2) ke b i j (within-past (k + 2) ke i u) ∙ sym (head_two-past ke k b M i j u)))
      (λ v. let l : i ≤ k + 1 = ltb-false (k + 1) i v in
      two_out M _ _ k ke (k + 2) ke b i j (within-before (k + 2) ke i (omega arith)) ∙ sym (head_two-before ke k b M i j l))
    where
      first-at : (j : ℕ) → k + 1 < j → j < ke → I' j k ≡ firsts k b M j
      first-at j h g = ap (λ (X : Mat). X j k) ei ∙ rw (ne_eqb k (k + 1) (λ z. omega arith), eq-eqb k k refl, le-leb (k + 2) j (omega arith), lt-ltb j ke g)

      second_at : (j : ℕ) → k + 1 < j → j < ke → I' j (k + 1) ≡ seconds k b M j
      second_at j h g = ap (λ (X : Mat). X j (k + 1)) ei ∙ rw (eq-eqb (k + 1) (k + 1) refl, le-leb (k + 2) j (omega arith), lt-ltb j ke g)
