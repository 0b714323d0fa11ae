-- Laws of the later columns in parts: one part after the other, in columns and in rows, as the loops have it. Assumes nothing.
use Prim.Native.Nat.{ℕ, ◌+◌, ◌-◌, ◌<◌, ◌≤◌, min, max}
use mathlib.Core.Path.{◌≡◌, refl, sym, ◌∙◌, ap, fun_ext}
use mathlib.Core.Bool.{Bool, true, false, false≢true, cond, ◌&&◌}
use native.Mathlib.Omega.{arith}
use borrow.Author.Tests.{lt-ltb, le-ltb, le-leb, lt-leb, ltb-true, ltb-false, leb-true, leb-false}
use lib.Dec.{ltb, leb}
use lib.Ieee.{Float}
use Rattle.model.specs.Scalar.{◌⊖◌, ◌⊗◌}
use Rattle.model.specs.Matrix.{Mat, within}
use Rattle.model.proofs.Cases.{test, no}
use Rattle.model.proofs.Summed.{sum_same}
use Rattle.kernels.specs.Rules.{zeroed}
use Rattle.sums.specs.Sums.{later_row, gathered}
use Rattle.deferred.specs.Columns.{column_deferred, part_deferred, ColumnsPre}

-- ---- one part after the other

-- x − acc at the places of r
deferred_on : (ℕ → ℕ → Bool) → Mat → Mat → ℕ → ℕ → Mat
deferred_on r a g kb w = λ i j. cond (r i j) (column_deferred a g j kb w i) (a i j)

module _ (r s u : ℕ → ℕ → Bool) (a G : Mat) (kb w : ℕ) (later : (i j : ℕ) → j < kb + w → r i j ≡ false) where
  -- a place that is not yet reached loses what it would have lost at first
  place_same : (i j : ℕ) → r i j ≡ false → column_deferred (deferred_on r a G kb w) G j kb w i ≡ column_deferred a G j kb w i
  unfolding column_deferred gathered later_row deferred_on
  place_same i j e =
      rw e (ap (λ (x : Float). a i j ⊖ x) (sum_same _ (λ t. G i t ⊗ a j (kb + t)) w 0 0 (zeroed i)
      (λ k g. rw (later j (kb + (0 + k)) (omega arith)))))

  on-more : ((i j : ℕ) → s i j ≡ true → r i j ≡ false) → ((i j : ℕ) → u i j ≡ cond (s i j) true (r i j))
      → deferred_on s (deferred_on r a G kb w) G kb w ≡ deferred_on u a G kb w
  unfolding deferred_on
  on-more apart union =
      fun_ext λ i. fun_ext λ j.
      test (s i j)
      (λ p. rw (p, union i j, p) (place_same i j (apart i j p)))
      (λ p. rw (p, union i j, p))

within-apart : (a b c x : ℕ) → within b c x ≡ true → within a b x ≡ false
within-apart a b c x h =
    test (ltb x b)
    (λ p. let z : false ≡ true = sym (rw (lt-leb b x (ltb-true x b p))) ∙ h in absurd (false≢true z))
    (λ p. rw (p, no (leb a x)))

within_more : (a b c x : ℕ) → a ≤ b → b ≤ c → within a c x ≡ cond (within b c x) true (within a b x)
within_more a b c x h l =
    test (ltb x b)
    (λ p. let g : x < b = ltb-true x b p in rw (p, lt-leb b x g, lt-ltb x c (omega arith)))
    (λ p. let g : b ≤ x = ltb-false x b p in
    rw (p, le-leb b x g, le-leb a x (omega arith)) (test (ltb x c) (λ q. rw q) (λ q. rw q)))

and-apart : (x y r : Bool) → (x ≡ true → y ≡ false) → x && r ≡ true → y && r ≡ false
and-apart true y r h e = rw (h refl)
and-apart false y r h e = absurd (false≢true e)

apart-and : (r x y : Bool) → (x ≡ true → y ≡ false) → r && x ≡ true → r && y ≡ false
apart-and true x y h e = h e
apart-and false x y h e = refl

and-more : (x y z r : Bool) → z ≡ cond x true y → z && r ≡ cond (x && r) true (y && r)
and-more true y z true e = rw e
and-more true y z false e = rw (e, no y)
and-more false y z r e = rw e

more-and : (r x y z : Bool) → z ≡ cond x true y → r && z ≡ cond (r && x) true (r && y)
more-and true x y z e = e
more-and false x y z e = refl

-- the columns before c
pub before-part : (a G : Mat) (kb w c end lo hi i j : ℕ) → j < c → part_deferred a G kb w c end lo hi i j ≡ a i j
unfolding part_deferred
before-part a G kb w c end lo hi i j h = rw (lt-leb c j h)

-- columns c up to end more
pub columns-more : (a P Q G : Mat) (kb w b c end lo hi : ℕ) → kb + w ≤ b → b ≤ c → c ≤ end → P ≡ part_deferred a G kb w b c lo hi
    → Q ≡ part_deferred P G kb w c end lo hi → Q ≡ part_deferred a G kb w b end lo hi
unfolding part_deferred deferred_on
columns-more a P Q G kb w b c end lo hi g h l p q =
    q ∙ rw p (on-more (λ i j. within b c j && (leb j i && within lo hi i)) (λ i j. within c end j && (leb j i && within lo hi i))
    (λ i j. within b end j && (leb j i && within lo hi i)) a G kb w
    (λ i j k. rw (lt-leb b j (omega arith)))
    (λ i j. and-apart (within c end j) (within b c j) (leb j i && within lo hi i) (within-apart b c end j))
    (λ i j. and-more (within c end j) (within b c j) (within b end j) (leb j i && within lo hi i) (within_more b c end j h l)))

-- rows mid up to hi more
pub rows_more : (a P Q G : Mat) (kb w c end lo mid hi : ℕ) → kb + w ≤ c → lo ≤ mid → mid ≤ hi → P ≡ part_deferred a G kb w c end lo mid
    → Q ≡ part_deferred P G kb w c end mid hi → Q ≡ part_deferred a G kb w c end lo hi
unfolding part_deferred deferred_on
rows_more a P Q G kb w c end lo mid hi g h l p q =
    q ∙ rw p (on-more (λ i j. within c end j && (leb j i && within lo mid i)) (λ i j. within c end j && (leb j i && within mid hi i))
    (λ i j. within c end j && (leb j i && within lo hi i)) a G kb w
    (λ i j k. rw (lt-leb c j (omega arith)))
    (λ i j. apart-and (within c end j) (leb j i && within mid hi i) (leb j i && within lo mid i)
    (apart-and (leb j i) (within mid hi i) (within lo mid i) (within-apart lo mid hi i)))
    (λ i j. more-and (within c end j) (leb j i && within mid hi i) (leb j i && within lo mid i) (leb j i && within lo hi i)
    (more-and (leb j i) (within mid hi i) (within lo mid i) (within lo hi i) (within_more lo mid hi i h l))))

-- ---- as the loops have it

pub columns-step : (a P Q G : Mat) (n m kb ke c r end lo hi glen len : ℕ) → ColumnsPre n m kb ke glen len → ke ≤ c → c < end → r ≡ min (c + 2) end
    → P ≡ part_deferred a G kb (ke - kb) ke c lo hi → Q ≡ part_deferred P G kb (ke - kb) c r lo hi → Q ≡ part_deferred a G kb (ke - kb) ke r lo hi
columns-step a P Q G n m kb ke c r end lo hi glen len h l g e p q =
    columns-more a P Q G kb (ke - kb) ke c r lo hi (omega arith) l (omega arith) p q

pub rows_step : (a P Q G : Mat) (n m kb ke lo hi to glen len : ℕ) → ColumnsPre n m kb ke glen len → ke ≤ lo → lo ≤ hi → hi ≡ to
    → P ≡ part_deferred a G kb (ke - kb) ke m ke lo → Q ≡ part_deferred P G kb (ke - kb) ke m lo hi → Q ≡ part_deferred a G kb (ke - kb) ke m ke to
rows_step a P Q G n m kb ke lo hi to glen len h l g e p q =
    rows_more a P Q G kb (ke - kb) ke m ke lo hi (omega arith) l g p q ∙ ap (λ (k : ℕ). part_deferred a G kb (ke - kb) ke m ke k) e

pub columns-none : (a G : Mat) (kb w c lo hi : ℕ) → a ≡ part_deferred a G kb w c c lo hi
unfolding part_deferred
columns-none a G kb w c lo hi =
    fun_ext λ i. fun_ext λ j. test (leb c j) (λ p. rw (p, le-ltb j c (leb-true c j p))) (λ p. rw p)

-- a column at hi or after it has no rows before hi
pub columns-end : (a P G : Mat) (kb w b c end ncol lo hi : ℕ) → c ≤ ncol → end ≤ c → end ≡ min ncol hi → P ≡ part_deferred a G kb w b c lo hi
    → P ≡ part_deferred a G kb w b ncol lo hi
unfolding part_deferred
columns-end a P G kb w b c end ncol lo hi h l e p =
    p ∙ fun_ext λ i. fun_ext λ j.
    test (ltb j c)
    (λ x. rw (x, lt-ltb j ncol (omega (arith, ltb-true j c x))))
    (λ x. test (ltb j ncol)
    (λ y. rw (x, y, no (leb b j))
    (test (leb j i)
    (λ z. rw (z, le-ltb i hi (omega (arith, ltb-false j c x, ltb-true j ncol y, leb-true j i z)), no (leb lo i), no (leb b j && true)))
    (λ z. rw (z, no (leb b j && true)))))
    (λ y. rw (x, y, no (leb b j))))

pub rows_none : (a G : Mat) (kb w c end lo : ℕ) → a ≡ part_deferred a G kb w c end lo lo
unfolding part_deferred
rows_none a G kb w c end lo =
    fun_ext λ i. fun_ext λ j.
    test (leb lo i)
    (λ p. rw (p, le-ltb i lo (leb-true lo i p), no (leb j i), no (leb c j && ltb j end)))
    (λ p. rw (p, no (leb j i), no (leb c j && ltb j end)))

-- rows that stand above the diagonal of every column from c on are none
pub from-diagonal : (a P G : Mat) (kb w c m end r from lo hi : ℕ) → from ≡ max lo c → lo ≤ hi → c < end → end ≡ min m hi
    → P ≡ part_deferred a G kb w c r from (from + (hi - from)) → P ≡ part_deferred a G kb w c r lo hi
unfolding part_deferred
from-diagonal a P G kb w c m end r from lo hi e u l g p =
    let back : from + (hi - from) ≡ hi = omega arith in
    p ∙ rw back (fun_ext λ i. fun_ext λ j.
    test (leb c j)
    (λ x. test (leb j i)
    (λ y. let ci : c ≤ i = omega (arith, leb-true c j x, leb-true j i y) in
    rw (x, y) (test (leb lo i)
    (λ z. rw (z, le-leb from i (omega (arith, leb-true lo i z))))
    (λ z. rw (z, lt-leb from i (omega (arith, leb-false lo i z))))))
    (λ y. rw (x, y)))
    (λ x. rw x))
