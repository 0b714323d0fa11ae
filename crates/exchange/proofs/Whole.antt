-- The four parts together are the symmetric exchange. Assumes nothing.
use Prim.Native.Nat.{ℕ, ◌+◌, ◌<◌, ◌≤◌}
use mathlib.Core.Path.{◌≡◌, refl, sym, ◌∙◌, fun_ext}
use mathlib.Core.Logic.{◌≢◌}
use mathlib.Core.Bool.{Bool, true, false, ◌&&◌}
use native.Mathlib.Omega.{arith}
use borrow.Author.Tests.{lt-ltb, le-ltb, le-leb, lt-leb, eq-eqb, ne_eqb, eqb-true, eqb-false, ltb-true, ltb-false, leb-true}
use lib.Dec.{ltb, leb, eqb}
use Rattle.model.specs.Matrix.{Mat, exchanged, exchanged_place}
use Rattle.grid.specs.Rules.{columns_exchanged}
use Rattle.model.proofs.Cases.{test, cmp, no, and_left, and_right}
use Rattle.model.proofs.Exchanged.{exchanged-in, exchanged-up, exchanged-past}
use Rattle.exchange.specs.Exchange.{cross_exchanged, diagonal_exchanged, rows_exchanged}
use Rattle.exchange.proofs.Laws.{place-p, place-q, place-no, keep, turn}

-- ---- tests

off : (b : Bool) → (b ≡ true → ⊥) → b ≡ false
off true h = absurd (h refl)
off false h = refl

-- a place of a part, from its test
part-not : (x y lo a hi : ℕ) → (x ≡ y → lo ≤ a → a < hi → ⊥) → eqb x y && (leb lo a && ltb a hi) ≡ false
part-not x y lo a hi h =
    off _ (λ t. let r = and_right (eqb x y) _ t in
    h (eqb-true x y (and_left (eqb x y) _ t)) (leb-true lo a (and_left (leb lo a) _ r)) (ltb-true a hi (and_right (leb lo a) _ r)))

cell-not : (x y z w : ℕ) → (x ≡ y → z ≡ w → ⊥) → eqb x y && eqb z w ≡ false
cell-not x y z w h = off _ (λ t. h (eqb-true x y (and_left (eqb x y) _ t)) (eqb-true z w (and_right (eqb x y) _ t)))

-- ---- after the columns, A; the cross, B; the diagonal, C; the rows, D

module _ (M : Mat) (p q lim : ℕ) (d : p < q) (u : q < lim) where
  A : Mat
  A = columns_exchanged M p q (q + 1) lim

  B : Mat
  B = cross_exchanged A p q (p + 1) q

  C : Mat
  C = diagonal_exchanged B p q

  D : Mat
  D = rows_exchanged C p q 0 p

  E : Mat
  E = exchanged p q lim M

  -- rows up to q and past the limit stay, and so does every column but the two
  A-low : (a b : ℕ) → a ≤ q → A a b ≡ M a b
  unfolding A columns_exchanged
  A-low a b h = rw (lt-leb (q + 1) a (omega arith))

  A-past : (a b : ℕ) → lim ≤ a → A a b ≡ M a b
  unfolding A columns_exchanged
  A-past a b h = rw (le-ltb a lim h, no (leb (q + 1) a))

  A-in : (a b x : ℕ) → q < a → a < lim → exchanged_place p q b ≡ x → A a b ≡ M a x
  unfolding A columns_exchanged
  A-in a b x h l e = rw (le-leb (q + 1) a (omega arith), lt-ltb a lim l, e)

  A-no : (a b : ℕ) → b ≢ p → b ≢ q → A a b ≡ M a b
  unfolding A columns_exchanged
  A-no a b x y = rw (place-no p q b x y) (test (leb (q + 1) a && ltb a lim) (λ e. rw e) (λ e. rw e))

  B-p : (a : ℕ) → p < a → a < q → B a p ≡ A q a
  unfolding B cross_exchanged
  B-p a h l = rw (eq-eqb p p refl, le-leb (p + 1) a (omega arith), lt-ltb a q l)

  B-q : (b : ℕ) → p < b → b < q → B q b ≡ A b p
  unfolding B cross_exchanged
  B-q b h l = rw (ne_eqb b p (λ x. omega arith), eq-eqb q q refl, le-leb (p + 1) b (omega arith), lt-ltb b q l)

  B-no : (a b : ℕ) → (b ≡ p → p < a → a < q → ⊥) → (a ≡ q → p < b → b < q → ⊥) → B a b ≡ A a b
  unfolding B cross_exchanged
  B-no a b x y = rw (part-not b p (p + 1) a q (λ e f g. x e (omega arith) g), part-not a q (p + 1) b q (λ e f g. y e (omega arith) g))

  C-no : (a b : ℕ) → (a ≡ p → b ≡ p → ⊥) → (a ≡ q → b ≡ q → ⊥) → C a b ≡ B a b
  unfolding C diagonal_exchanged
  C-no a b x y = rw (cell-not a p b p x, cell-not a q b q y)

  C-pp : C p p ≡ B q q
  unfolding C diagonal_exchanged
  C-pp = rw (eq-eqb p p refl)

  C-qq : C q q ≡ B p p
  unfolding C diagonal_exchanged
  C-qq = rw (ne_eqb q p (λ x. omega arith), eq-eqb q q refl)

  -- a place that neither the cross nor the diagonal reaches
  C-A : (a b : ℕ) → (a ≡ p → b ≡ p → ⊥) → (a ≡ q → b ≡ q → ⊥) → (b ≡ p → p < a → a < q → ⊥) → (a ≡ q → p < b → b < q → ⊥) → C a b ≡ A a b
  C-A a b x y z w = C-no a b x y ∙ B-no a b z w

  -- left of p: rows exchanged; from p on: as the diagonal left it
  D-left : (a b x : ℕ) → b < p → exchanged_place p q a ≡ x → D a b ≡ C x b
  unfolding D rows_exchanged
  D-left a b x h e = rw (le-leb 0 b (omega arith), lt-ltb b p h, e)

  D-right : (a b : ℕ) → p ≤ b → D a b ≡ C a b
  unfolding D rows_exchanged
  D-right a b h = rw (le-ltb b p h, no (leb 0 b))

  -- the exchange, at a place whose exchanged row and column are x and y
  kept : (a b x y : ℕ) → b ≤ a → a < lim → exchanged_place p q a ≡ x → exchanged_place p q b ≡ y → y ≤ x → M x y ≡ E a b
  unfolding E
  kept a b x y h l e f g = keep M x y g ∙ sym (exchanged-in p q lim M a b h l ∙ rw (e, f))

  turned : (a b x y : ℕ) → b ≤ a → a < lim → exchanged_place p q a ≡ x → exchanged_place p q b ≡ y → x ≤ y → M y x ≡ E a b
  unfolding E
  turned a b x y h l e f g = turn M x y g ∙ sym (exchanged-in p q lim M a b h l ∙ rw (e, f))

  E-up : (a b : ℕ) → a < b → M a b ≡ E a b
  unfolding E
  E-up a b h = sym (exchanged-up p q lim M a b h)

  E-past : (a b : ℕ) → lim ≤ a → M a b ≡ E a b
  unfolding E
  E-past a b h = sym (exchanged-past p q lim M a b h)

  -- a row and a column that are neither p nor q
  stay : (a b : ℕ) → a ≢ p → a ≢ q → b ≢ p → b ≢ q → M a b ≡ E a b
  stay a b w x y z = cmp a b (λ l. E-up a b l) (λ e. here (omega arith)) (λ g. here (omega arith))
    where
      here : b ≤ a → M a b ≡ E a b
      here h =
          test (ltb a lim)
          (λ t. kept a b a b h (ltb-true a lim t) (place-no p q a w x) (place-no p q b y z) h)
          (λ t. E-past a b (ltb-false a lim t))

  -- one of the two columns, below q
  below : (a b x : ℕ) → q < a → b ≤ a → exchanged_place p q b ≡ x → x ≤ a → A a b ≡ E a b
  below a b x m g e h =
      test (ltb a lim)
      (λ t. let l = ltb-true a lim t in A-in a b x m l e ∙ kept a b a x g l (place-no p q a (λ y. omega arith) (λ y. omega arith)) e h)
      (λ t. let l = ltb-false a lim t in A-past a b l ∙ E-past a b l)

  -- left of p every part but the last leaves all
  at_left : (a b : ℕ) → b < p → D a b ≡ E a b
  at_left a b h =
      test (eqb a p)
      (λ e. rw (eqb-true a p e) (D-left p b q h (place-p p q) ∙ left q ∙ kept p b q b (omega arith) (omega arith) (place-p p q) same (omega arith)))
      (λ e. test (eqb a q)
      (λ f. rw (eqb-true a q f) (D-left q b p h (place-q p q d) ∙ left p ∙ kept q b p b (omega arith) u (place-q p q d) same (omega arith)))
      (λ f. D-left a b a h (place-no p q a (eqb-false a p e) (eqb-false a q f)) ∙ left a
      ∙ stay a b (eqb-false a p e) (eqb-false a q f) (λ x. omega arith) (λ x. omega arith)))
    where
      same : exchanged_place p q b ≡ b
      same = place-no p q b (λ x. omega arith) (λ x. omega arith)

      left : (x : ℕ) → C x b ≡ M x b
      left x =
          C-A x b (λ y z. omega arith) (λ y z. omega arith) (λ y z w. omega arith) (λ y z w. omega arith)
          ∙ A-no x b (λ y. omega arith) (λ y. omega arith)

  at_p : (a : ℕ) → D a p ≡ E a p
  at_p a =
      D-right a p (omega arith) ∙
      cmp a p
      (λ l. C-A a p (λ x y. omega arith) (λ x y. omega arith) (λ x y z. omega arith) (λ x y z. omega arith) ∙ A-low a p (omega arith) ∙ E-up a p l)
      (λ e. rw e (C-pp ∙ B-no q q (λ x y z. omega arith) (λ x y z. omega arith) ∙ A-low q q (omega arith)
      ∙ kept p p q q (omega arith) (omega arith) (place-p p q) (place-p p q) (omega arith)))
      (λ g. cmp a q
      (λ l. C-no a p (λ x y. omega arith) (λ x y. omega arith) ∙ B-p a g l ∙ A-low q a (omega arith)
      ∙ turned a p a q (omega arith) (omega arith) (place-no p q a (λ x. omega arith) (λ x. omega arith)) (place-p p q) (omega arith))
      (λ e. rw e (C-A q p (λ x y. omega arith) (λ x y. omega arith) (λ x y z. omega arith) (λ x y z. omega arith) ∙ A-low q p (omega arith)
      ∙ turned q p p q (omega arith) u (place-q p q d) (place-p p q) (omega arith)))
      (λ m. C-A a p (λ x y. omega arith) (λ x y. omega arith) (λ x y z. omega arith) (λ x y z. omega arith)
      ∙ below a p q m (omega arith) (place-p p q) (omega arith)))

  at_mid : (a b : ℕ) → p < b → b < q → D a b ≡ E a b
  at_mid a b h l =
      D-right a b (omega arith) ∙ C-no a b (λ x y. omega arith) (λ x y. omega arith) ∙
      test (eqb a q)
      (λ e. rw (eqb-true a q e) (B-q b h l ∙ A-low b p (omega arith)
      ∙ turned q b p b (omega arith) u (place-q p q d) (place-no p q b (λ x. omega arith) (λ x. omega arith)) (omega arith)))
      (λ e. B-no a b (λ x y z. omega arith) (λ x y z. eqb-false a q e x) ∙ A-no a b (λ x. omega arith) (λ x. omega arith) ∙
      test (eqb a p)
      (λ f. rw (eqb-true a p f) (E-up p b h))
      (λ f. stay a b (eqb-false a p f) (eqb-false a q e) (λ x. omega arith) (λ x. omega arith)))

  at-q : (a : ℕ) → D a q ≡ E a q
  at-q a =
      D-right a q (omega arith) ∙
      cmp a q
      (λ l. C-A a q (λ x y. omega arith) (λ x y. omega arith) (λ x y z. omega arith) (λ x y z. omega arith) ∙ A-low a q (omega arith) ∙ E-up a q l)
      (λ e. rw e (C-qq ∙ B-no p p (λ x y z. omega arith) (λ x y z. omega arith) ∙ A-low p p (omega arith)
      ∙ kept q q p p (omega arith) u (place-q p q d) (place-q p q d) (omega arith)))
      (λ g. C-A a q (λ x y. omega arith) (λ x y. omega arith) (λ x y z. omega arith) (λ x y z. omega arith)
      ∙ below a q p g (omega arith) (place-q p q d) (omega arith))

  at_right : (a b : ℕ) → q < b → D a b ≡ E a b
  at_right a b h =
      D-right a b (omega arith) ∙ C-A a b (λ x y. omega arith) (λ x y. omega arith) (λ x y z. omega arith) (λ x y z. omega arith)
      ∙ A-no a b (λ x. omega arith) (λ x. omega arith)
      ∙ test (ltb a b) (λ t. E-up a b (ltb-true a b t)) (λ t. let l = ltb-false a b t in
      stay a b (λ x. omega arith) (λ x. omega arith) (λ x. omega arith) (λ x. omega arith))

  all-four : D ≡ E
  all-four =
      fun_ext λ a. fun_ext λ b.
      cmp b p (λ l. at_left a b l) (λ e. rw e (at_p a)) (λ g. cmp b q (λ l. at_mid a b g l) (λ e. rw e (at-q a)) (λ h. at_right a b h))

pub exchange : (M N P Q R : Mat) (p q lim : ℕ) → p < q → q < lim → N ≡ columns_exchanged M p q (q + 1) lim → P ≡ cross_exchanged N p q (p + 1) q
    → Q ≡ diagonal_exchanged P p q → R ≡ rows_exchanged Q p q 0 p → R ≡ exchanged p q lim M
unfolding A B C D E
exchange M N P Q R p q lim d u n e f g = g ∙ rw (f, e, n) (all-four M p q lim d u)
