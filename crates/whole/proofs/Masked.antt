-- The cut to the head goes through the parts of a step: the exchange, the elimination of the panel's rows, the multipliers that are kept.
-- Assumes nothing.
use Prim.Native.Nat.{ℕ, ◌+◌, ◌<◌, ◌≤◌, max, min}
use mathlib.Core.Path.{◌≡◌, refl, sym, ◌∙◌, ap, fun_ext}
use mathlib.Core.Bool.{true, false}
use native.Mathlib.Omega.{arith}
use borrow.Author.Tests.{lt-ltb, le-ltb, le-leb, lt-leb, eq-eqb, ne_eqb, ltb-true, ltb-false, leb-true, leb-false}
use lib.Dec.{ltb, leb, eqb}
use lib.Ieee.{Float}
use Rattle.model.specs.Scalar.{◌⊗◌, zero_f, reciprocal_of}
use Rattle.model.specs.Matrix.{Row, Mat, within, put, with_column, head_of, exchanged, exchanged_place}
use Rattle.model.specs.Step.{one, two, eliminated, first_multiplier, second_multiplier}
use Rattle.model.specs.Head.{head_one, head_two, kept_one, kept_two}
use Rattle.model.specs.declared.Block.{Block}
use Rattle.model.proofs.Cases.{test, cmp, no}
use Rattle.model.proofs.Exchanged.{place-under, exchanged-in, exchanged-up, exchanged-past}
use Rattle.model.proofs.Independence.{same_head}

-- ---- ranges

pub within_in : (lo hi i : ℕ) → lo ≤ i → i < hi → within lo hi i ≡ true
within_in lo hi i h l = rw (le-leb lo i h, lt-ltb i hi l)

pub within-before : (lo hi i : ℕ) → i < lo → within lo hi i ≡ false
within-before lo hi i h = rw (lt-leb lo i h)

pub within-past : (lo hi i : ℕ) → hi ≤ i → within lo hi i ≡ false
within-past lo hi i h = rw (le-ltb i hi h, no (leb lo i))

-- i stands in the range or not
pub ranged : {P : Type 0} (lo hi i : ℕ) → (lo ≤ i → i < hi → within lo hi i ≡ true → P) → (within lo hi i ≡ false → P) → P
ranged lo hi i f g =
    test (ltb i lo)
    (λ t. g (within-before lo hi i (ltb-true i lo t)))
    (λ t. let h : lo ≤ i = ltb-false i lo t in
    test (ltb i hi) (λ u. let l : i < hi = ltb-true i hi u in f h l (within_in lo hi i h l)) (λ u. g (within-past lo hi i (ltb-false i hi u))))

-- ---- the head of a matrix

pub head_at : (c : ℕ) (a : Mat) (i j : ℕ) → j ≤ i → i < c → head_of c a i j ≡ a i j
unfolding head_of
head_at c a i j h l = rw (le-leb j i h, lt-ltb i c l)

pub head-up : (c : ℕ) (a : Mat) (i j : ℕ) → i < j → head_of c a i j ≡ zero_f
unfolding head_of
head-up c a i j h = rw (lt-leb j i h)

pub head-past : (c : ℕ) (a : Mat) (i j : ℕ) → c ≤ i → head_of c a i j ≡ zero_f
unfolding head_of
head-past c a i j h = rw (le-ltb i c h, no (leb j i))

-- b is a's head: the same in the triangle, +0.0 elsewhere
pub is-head : (c : ℕ) (a b : Mat)
    → ((i j : ℕ) → j ≤ i → i < c → b i j ≡ a i j) → ((i j : ℕ) → i < j → b i j ≡ zero_f) → ((i j : ℕ) → c ≤ i → b i j ≡ zero_f) → b ≡ head_of c a
is-head c a b inside up past =
    fun_ext λ i. fun_ext λ j.
    test (leb j i)
    (λ u. test (ltb i c)
    (λ v. let x = leb-true j i u in let y = ltb-true i c v in inside i j x y ∙ sym (head_at c a i j x y))
    (λ v. let y = ltb-false i c v in past i j y ∙ sym (head-past c a i j y)))
    (λ u. let x = leb-false j i u in up i j x ∙ sym (head-up c a i j x))

pub head-twice : (c : ℕ) (a : Mat) → head_of c (head_of c a) ≡ head_of c a
head-twice c a = same_head c (head_of c a) a (head_at c a)

-- ---- the exchange

pub exchanged-masked : (c p q lim : ℕ) (a : Mat) → p < lim → q < lim → lim ≤ c → exchanged p q lim (head_of c a) ≡ head_of c (exchanged p q lim a)
exchanged-masked c p q lim a hp hq hc =
    is-head c (exchanged p q lim a) (exchanged p q lim (head_of c a)) inside
    (λ i j h. exchanged-up p q lim (head_of c a) i j h ∙ head-up c a i j h)
    (λ i j h. exchanged-past p q lim (head_of c a) i j (omega arith) ∙ head-past c a i j h)
  where
    inside : (i j : ℕ) → j ≤ i → i < c → exchanged p q lim (head_of c a) i j ≡ exchanged p q lim a i j
    inside i j h l =
        let u = exchanged_place p q i in
        let w = exchanged_place p q j in
        test (ltb i lim)
        (λ t. let x : i < lim = ltb-true i lim t in
        let hu : u < lim = place-under p q lim i hp hq x in
        let hw : w < lim = place-under p q lim j hp hq (omega arith) in
        exchanged-in p q lim (head_of c a) i j h x ∙ head_at c a (max u w) (min u w) (omega arith) (omega arith) ∙ sym (exchanged-in p q lim a i j h x))
        (λ t. let x : lim ≤ i = ltb-false i lim t in
        exchanged-past p q lim (head_of c a) i j x ∙ head_at c a i j h l ∙ sym (exchanged-past p q lim a i j x))

-- ---- the elimination of a row

-- at column j it sees the pivot's columns and j, and no partner
pub one_alike : (k kp kq end : ℕ) (d : Float) (m n r s : Row) (j : ℕ) → r k ≡ s k → r j ≡ s j → (k < j → j < end → m j ≡ n j)
    → eliminated (one k kp d m) end r j ≡ eliminated (one k kq d n) end s j
unfolding eliminated
one_alike k kp kq end d m n r s j x y z =
    rw (x, y) (ranged (k + 1) end j (λ h l t. let e : m j ≡ n j = z (omega arith) l in rw e) (λ t. rw t))

pub two-alike : (k kp kq end : ℕ) (b : Block) (m1 m2 n1 n2 r s : Row) (j : ℕ) → r k ≡ s k → r (k + 1) ≡ s (k + 1) → r j ≡ s j
    → (k + 1 < j → j < end → m1 j ≡ n1 j) → (k + 1 < j → j < end → m2 j ≡ n2 j)
    → eliminated (two k kp b m1 m2) end r j ≡ eliminated (two k kq b n1 n2) end s j
unfolding eliminated
two-alike k kp kq end b m1 m2 n1 n2 r s j x y z f g =
    rw (x, y, z) (ranged (k + 2) end j
    (λ h l t. let e1 : m1 j ≡ n1 j = f (omega arith) l in let e2 : m2 j ≡ n2 j = g (omega arith) l in rw (e1, e2))
    (λ t. rw t))

-- from `end` on a row stays as it was
pub one-past : (k kp end : ℕ) (d : Float) (m r : Row) (j : ℕ) → k < end → end ≤ j → eliminated (one k kp d m) end r j ≡ r j
unfolding eliminated
one-past k kp end d m r j l h = rw (ne_eqb j k (λ x. omega arith), within-past (k + 1) end j h)

pub two_past : (k kp end : ℕ) (b : Block) (m1 m2 r : Row) (j : ℕ) → k + 1 < end → end ≤ j → eliminated (two k kp b m1 m2) end r j ≡ r j
unfolding eliminated
two_past k kp end b m1 m2 r j l h = rw (ne_eqb j k (λ x. omega arith), ne_eqb j (k + 1) (λ x. omega arith), within-past (k + 2) end j h)

-- ---- the panel's rows after a 1x1

module _ (ke k : ℕ) (d : Float) (a : Mat) where
  pub head_one-in : (i j : ℕ) → k < i → i < ke → head_one ke k d a i j ≡ eliminated (one k k d (λ b. a b k ⊗ reciprocal_of d)) (i + 1) (a i) j
  unfolding head_one
  head_one-in i j h l = rw (lt-ltb k i h, lt-ltb i ke l)

  pub head_one-diagonal : (j : ℕ) → head_one ke k d a k j ≡ put (a k) k d j
  unfolding head_one
  head_one-diagonal j = rw (le-ltb k k (omega arith), eq-eqb k k refl)

  pub head_one-before : (i j : ℕ) → i < k → head_one ke k d a i j ≡ a i j
  unfolding head_one
  head_one-before i j h = rw (le-ltb k i (omega arith), ne_eqb i k (λ x. omega arith))

  pub head_one-past : (i j : ℕ) → k < i → ke ≤ i → head_one ke k d a i j ≡ a i j
  unfolding head_one
  head_one-past i j l h = rw (le-ltb i ke h, no (ltb k i), ne_eqb i k (λ x. omega arith))

  pub head_one-up : (i j : ℕ) → i < j → head_one ke k d a i j ≡ a i j
  unfolding put
  head_one-up i j h =
      cmp k i
      (λ l. test (ltb i ke)
      (λ t. head_one-in i j l (ltb-true i ke t) ∙ one-past k k (i + 1) d (λ b. a b k ⊗ reciprocal_of d) (a i) j (omega arith) (omega arith))
      (λ t. head_one-past i j l (ltb-false i ke t)))
      (λ e. rw (← e) (head_one-diagonal j ∙ rw (ne_eqb j k (λ x. omega arith))))
      (λ l. head_one-before i j l)

-- cut before or after
pub head_one-masked : (c ke k : ℕ) (d : Float) (a : Mat) → k < ke → ke ≤ c → head_one ke k d (head_of c a) ≡ head_of c (head_one ke k d a)
unfolding put
head_one-masked c ke k d a hk hc =
    is-head c (head_one ke k d a) (head_one ke k d (head_of c a)) inside
    (λ i j h. head_one-up ke k d (head_of c a) i j h ∙ head-up c a i j h)
    (λ i j h. head_one-past ke k d (head_of c a) i j (omega arith) (omega arith) ∙ head-past c a i j h)
  where
    inside : (i j : ℕ) → j ≤ i → i < c → head_one ke k d (head_of c a) i j ≡ head_one ke k d a i j
    inside i j h l =
        cmp k i
        (λ x. test (ltb i ke)
        (λ t. let y : i < ke = ltb-true i ke t in
        head_one-in ke k d (head_of c a) i j x y
        ∙ one_alike k k k (i + 1) d (λ b. head_of c a b k ⊗ reciprocal_of d) (λ b. a b k ⊗ reciprocal_of d) (head_of c a i) (a i) j
        (head_at c a i k (omega arith) l) (head_at c a i j h l) (λ u w. rw (head_at c a j k (omega arith) (omega arith)))
        ∙ sym (head_one-in ke k d a i j x y))
        (λ t. let y : ke ≤ i = ltb-false i ke t in head_one-past ke k d (head_of c a) i j x y ∙ head_at c a i j h l ∙ sym (head_one-past ke k d a i j x y)))
        (λ e. rw (← e) (head_one-diagonal ke k d (head_of c a) j ∙ rw (head_at c a k j (omega arith) (omega arith)) (sym (head_one-diagonal ke k d a j))))
        (λ x. head_one-before ke k d (head_of c a) i j x ∙ head_at c a i j h l ∙ sym (head_one-before ke k d a i j x))

-- ---- the panel's rows after a block

-- its multipliers, by row
abbrev pub firsts : ℕ → Block → Mat → Row
firsts k b a = λ j. first_multiplier b (a j k) (a j (k + 1))

abbrev pub seconds : ℕ → Block → Mat → Row
seconds k b a = λ j. second_multiplier b (a j k) (a j (k + 1))

module _ (ke k : ℕ) (b : Block) (a : Mat) where
  pub head_two-in : (i j : ℕ) → k + 1 < i → i < ke → head_two ke k b a i j ≡ eliminated (two k k b (firsts k b a) (seconds k b a)) (i + 1) (a i) j
  unfolding head_two
  head_two-in i j h l = rw (lt-ltb (k + 1) i h, lt-ltb i ke l)

  pub head_two-before : (i j : ℕ) → i ≤ k + 1 → head_two ke k b a i j ≡ a i j
  unfolding head_two
  head_two-before i j h = rw (le-ltb (k + 1) i h)

  pub head_two-past : (i j : ℕ) → ke ≤ i → head_two ke k b a i j ≡ a i j
  unfolding head_two
  head_two-past i j h = rw (le-ltb i ke h, no (ltb (k + 1) i))

  pub head_two-up : (i j : ℕ) → i < j → head_two ke k b a i j ≡ a i j
  head_two-up i j h =
      test (ltb (k + 1) i)
      (λ s. let l : k + 1 < i = ltb-true (k + 1) i s in
      test (ltb i ke)
      (λ t. head_two-in i j l (ltb-true i ke t) ∙ two_past k k (i + 1) b (firsts k b a) (seconds k b a) (a i) j (omega arith) (omega arith))
      (λ t. head_two-past i j (ltb-false i ke t)))
      (λ s. head_two-before i j (ltb-false (k + 1) i s))

pub head_two-masked : (c ke k : ℕ) (b : Block) (a : Mat) → ke ≤ c → head_two ke k b (head_of c a) ≡ head_of c (head_two ke k b a)
head_two-masked c ke k b a hc =
    is-head c (head_two ke k b a) (head_two ke k b (head_of c a)) inside
    (λ i j h. head_two-up ke k b (head_of c a) i j h ∙ head-up c a i j h)
    (λ i j h. head_two-past ke k b (head_of c a) i j (omega arith) ∙ head-past c a i j h)
  where
    inside : (i j : ℕ) → j ≤ i → i < c → head_two ke k b (head_of c a) i j ≡ head_two ke k b a i j
    inside i j h l =
        test (ltb (k + 1) i)
        (λ s. let x : k + 1 < i = ltb-true (k + 1) i s in
        test (ltb i ke)
        (λ t. let y : i < ke = ltb-true i ke t in
        head_two-in ke k b (head_of c a) i j x y
        ∙ two-alike k k k (i + 1) b (firsts k b (head_of c a)) (seconds k b (head_of c a)) (firsts k b a) (seconds k b a) (head_of c a i) (a i) j
        (head_at c a i k (omega arith) l) (head_at c a i (k + 1) (omega arith) l) (head_at c a i j h l)
        (λ u w. rw (head_at c a j k (omega arith) (omega arith), head_at c a j (k + 1) (omega arith) (omega arith)))
        (λ u w. rw (head_at c a j k (omega arith) (omega arith), head_at c a j (k + 1) (omega arith) (omega arith)))
        ∙ sym (head_two-in ke k b a i j x y))
        (λ t. let y : ke ≤ i = ltb-false i ke t in head_two-past ke k b (head_of c a) i j y ∙ head_at c a i j h l ∙ sym (head_two-past ke k b a i j y)))
        (λ s. let x : i ≤ k + 1 = ltb-false (k + 1) i s in
        head_two-before ke k b (head_of c a) i j x ∙ head_at c a i j h l ∙ sym (head_two-before ke k b a i j x))

-- ---- the multipliers that are kept

with_column-alike : (m : Mat) (j lo hi : ℕ) (f g : Row) → ((i : ℕ) → lo ≤ i → i < hi → f i ≡ g i) → with_column m j lo hi f ≡ with_column m j lo hi g
unfolding with_column
with_column-alike m j lo hi f g h =
    fun_ext λ p. fun_ext λ q. test (eqb q j) (λ e. rw e (ranged lo hi p (λ x y t. rw t (h p x y)) (λ t. rw t))) (λ e. rw e)

module _ (c ke k : ℕ) (a mult : Mat) (hc : ke ≤ c) where
  pub kept_one-masked : (d : Float) → kept_one ke k d (head_of c a) mult ≡ kept_one ke k d a mult
  unfolding kept_one
  kept_one-masked d = with_column-alike mult k (k + 1) ke _ _ (λ i x y. rw (head_at c a i k (omega arith) (omega arith)))

  pub kept_two-masked : (b : Block) → kept_two ke k b (head_of c a) mult ≡ kept_two ke k b a mult
  unfolding kept_two
  kept_two-masked b =
      with_column-alike _ (k + 1) (k + 2) ke (seconds k b (head_of c a)) (seconds k b a)
      (λ i x y. rw (head_at c a i k (omega arith) (omega arith), head_at c a i (k + 1) (omega arith) (omega arith)))
      ∙ ap (λ (m : Mat). with_column m (k + 1) (k + 2) ke (seconds k b a))
      (with_column-alike mult k (k + 2) ke (firsts k b (head_of c a)) (firsts k b a)
      (λ i x y. rw (head_at c a i k (omega arith) (omega arith), head_at c a i (k + 1) (omega arith) (omega arith))))
