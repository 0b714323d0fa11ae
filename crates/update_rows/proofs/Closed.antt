-- The loops over the descendant's rows make the definition's matrix: row by row and column by column it is `updated`. Assumes nothing.
-- `at i` is the descendant's row that row i of the target is, and its count of rows where it is none.
use mathlib.Core.Path.{◌≡◌, refl, sym, ◌∙◌, ap}
use mathlib.Core.Bool.{true}
use Prim.Native.Nat.{ℕ, zero, suc, ◌+◌, ◌-◌, ◌≤◌, ◌<◌}
use native.Mathlib.Omega.{arith}
use borrow.Author.Tests.{eq-eqb, ne_eqb, eqb-true, eqb-false}
use lib.Dec.{eqb}
use lib.Ieee.{Float}
use Rattle.model.specs.Scalar.{◌⊖◌}
use Rattle.model.specs.Matrix.{Row, Mat, naturals}
use Rattle.model.specs.Update.{Descendant, update_acc}
use Rattle.model.proofs.Cases.{test}
use Rattle.landing.specs.Rows.{lands_on}
use Rattle.update_rows.specs.Apply.{landing_acc, less_at, less_from, row_applied, rows_applied}

-- ---- what a column loses: `places` and `at` are inverse to each other, for rows lo up to hi of the descendant

pub record Inverse (n lo hi : ℕ) (places at : ℕ → ℕ) : Type 0 where
  pub there : (r : ℕ) → lo ≤ r → r < hi → at (places r) ≡ r
  pub back : (p : ℕ) → p < n → lo ≤ at p → at p < hi → places (at p) ≡ p

module _ (n lo hi : ℕ) (places at : ℕ → ℕ) (v : Inverse n lo hi places at) (acc : Row) (j : ℕ) where
  -- one place: the row that stands there, and no other
  one_hit : (r p q : ℕ) (a : Mat) → p < n → lo ≤ r → r < hi → at p ≡ r → q ≡ j → less_at a (places r) j (acc r) p q ≡ a p q ⊖ acc r
  unfolding less_at
  one_hit r p q a h l m e f =
      let z : p ≡ places r = sym (v.back p h (omega arith) (omega arith)) ∙ ap places e in
      rw (eq-eqb p (places r) z, eq-eqb q j f)

  one-miss : (r p q : ℕ) (a : Mat) → lo ≤ r → r < hi → (at p ≡ r → q ≡ j → ⊥) → less_at a (places r) j (acc r) p q ≡ a p q
  unfolding less_at
  one-miss r p q a l m d =
      test (eqb p (places r))
      (λ t. rw (t, ne_eqb q j (d (ap at (eqb-true p (places r) t) ∙ v.there r l m))))
      (λ t. rw t)

  less-miss : (m r p q : ℕ) (a : Mat) → lo ≤ r → r + m ≤ hi → (r ≤ at p → at p < r + m → q ≡ j → ⊥) → less_from places acc j m r a p q ≡ a p q
  unfolding less_from
  less-miss zero r p q a l b d = refl
  less-miss (suc m) r p q a l b d =
      less-miss m (r + 1) p q (less_at a (places r) j (acc r)) (omega arith) (omega arith) (λ x y. d (omega arith) (omega arith))
      ∙ one-miss r p q a l (omega arith) (λ x. d (omega arith) (omega arith))

  less-hit : (m r p q : ℕ) (a : Mat) → p < n → lo ≤ r → r + m ≤ hi → r ≤ at p → at p < r + m → q ≡ j → less_from places acc j m r a p q ≡ a p q ⊖ acc (at p)
  unfolding less_from
  less-hit zero r p q a h l b x y z = absurd (omega arith)
  less-hit (suc m) r p q a h l b x y z =
      test (eqb (at p) r)
      (λ t. let e : at p ≡ r = eqb-true (at p) r t in
      less-miss m (r + 1) p q (less_at a (places r) j (acc r)) (omega arith) (omega arith) (λ u w s. omega arith)
      ∙ one_hit r p q a h l (omega arith) e z ∙ ap (λ (s : ℕ). a p q ⊖ acc s) (sym e))
      (λ t. less-hit m (r + 1) p q (less_at a (places r) j (acc r)) h (omega arith) (omega arith) (omega (arith, eqb-false (at p) r t)) (omega arith) z
      ∙ ap (λ (s : Float). s ⊖ acc (at p)) (one-miss r p q a l (omega arith) (λ u. absurd (eqb-false (at p) r t u))))

-- ---- all landing rows

-- row c of the descendant lands on column q exactly where column q's row is row c
pub record Lands (first ncol : ℕ) (krows at : ℕ → ℕ) (lo hi : ℕ) : Type 0 where
  pub on : (c q : ℕ) → lo ≤ c → c < hi → q < ncol → at q ≡ c → (lands_on first ncol (krows c) ≡ true) × (krows c - first ≡ q)
  pub only : (c q : ℕ) → lo ≤ c → c < hi → q < ncol → lands_on first ncol (krows c) ≡ true → krows c - first ≡ q → at q ≡ c

module _ (first ncol n : ℕ) (k : Descendant) (lo : ℕ) (places at : ℕ → ℕ) (v : Inverse n lo k.mk places at)
    (d : Lands first ncol (naturals k.rows) at lo k.mk) where
  row-hit : (c p q : ℕ) (a : Mat) → lo ≤ c → c < k.mk → p < n → q < ncol → at q ≡ c → c ≤ at p → at p < k.mk
      → row_applied first ncol k places c a p q ≡ a p q ⊖ update_acc k (at p) c
  unfolding row_applied landing_acc
  row-hit c p q a l h x y e f g =
      rw (d.on c q l h y e).0 (less-hit n lo k.mk places at v (λ r. update_acc k r c) (naturals k.rows c - first) (k.mk - c) c p q a x l
      (omega arith) f (omega arith) (sym (d.on c q l h y e).1))

  row-miss : (c p q : ℕ) (a : Mat) → lo ≤ c → c < k.mk → p < n → q < ncol → (at q ≡ c → c ≤ at p → at p < k.mk → ⊥)
      → row_applied first ncol k places c a p q ≡ a p q
  unfolding row_applied landing_acc
  row-miss c p q a l h x y z =
      test (lands_on first ncol (naturals k.rows c))
      (λ t. rw t (less-miss n lo k.mk places at v (λ r. update_acc k r c) (naturals k.rows c - first) (k.mk - c) c p q a l (omega arith)
      (λ u w s. z (d.only c q l h y t (sym s)) u (omega arith))))
      (λ t. rw t)

  pub rows-miss : (m c p q : ℕ) (a : Mat) → lo ≤ c → c + m ≤ k.mk → p < n → q < ncol → (c ≤ at q → at q < c + m → at q ≤ at p → at p < k.mk → ⊥)
      → rows_applied first ncol k places m c a p q ≡ a p q
  unfolding rows_applied
  rows-miss zero c p q a l h x y z = refl
  rows-miss (suc m) c p q a l h x y z =
      rows-miss m (c + 1) p q (row_applied first ncol k places c a) (omega arith) (omega arith) x y (λ u w. z (omega arith) (omega arith))
      ∙ row-miss c p q a l (omega arith) x y (λ e u. z (omega arith) (omega arith) (omega arith))

  pub rows-hit : (m c p q : ℕ) (a : Mat) → lo ≤ c → c + m ≤ k.mk → p < n → q < ncol → c ≤ at q → at q < c + m → at q ≤ at p → at p < k.mk
      → rows_applied first ncol k places m c a p q ≡ a p q ⊖ update_acc k (at p) (at q)
  unfolding rows_applied
  rows-hit zero c p q a l h x y e f g i = absurd (omega arith)
  rows-hit (suc m) c p q a l h x y e f g i =
      test (eqb (at q) c)
      (λ t. let z : at q ≡ c = eqb-true (at q) c t in
      rows-miss m (c + 1) p q (row_applied first ncol k places c a) (omega arith) (omega arith) x y (λ u w s o. omega arith)
      ∙ row-hit c p q a l (omega arith) x y z (omega arith) i ∙ ap (λ (s : ℕ). a p q ⊖ update_acc k (at p) s) (sym z))
      (λ t. rows-hit m (c + 1) p q (row_applied first ncol k places c a) (omega arith) (omega arith) x y (omega (arith, eqb-false (at q) c t)) (omega arith) g i
      ∙ ap (λ (s : Float). s ⊖ update_acc k (at p) (at q)) (row-miss c p q a l (omega arith) x y (λ u. absurd (eqb-false (at q) c t u))))
