-- Laws of all later columns: by rows they are the definition's. Assumes nothing.
use Prim.Native.Nat.{ℕ, ◌+◌, ◌-◌, ◌<◌, ◌≤◌, min}
use mathlib.Core.Path.{◌≡◌, ◌∙◌, ap, fun_ext}
use mathlib.Core.Bool.{◌&&◌}
use native.Mathlib.Omega.{arith}
use borrow.Author.Tests.{lt-ltb, le-ltb, le-leb, ltb-true, ltb-false, leb-true, leb-false}
use lib.Dec.{ltb, leb}
use lib.Ieee.{Float}
use Rattle.model.specs.Scalar.{◌⊖◌, ◌⊗◌, zero_f}
use Rattle.model.specs.Matrix.{Mat}
use Rattle.model.specs.Step.{Diagonals}
use Rattle.model.specs.Panel.{times_d, acc_of, row_deferred}
use Rattle.model.proofs.Cases.{test, no}
use Rattle.model.proofs.Summed.{sum_same}
use Rattle.kernels.specs.Rules.{zeroed}
use Rattle.whole.specs.Whole.{deferred_rows}
use Rattle.products.specs.Products.{column_product, with_products}
use Rattle.sums.specs.Sums.{later_row, gathered}
use Rattle.deferred.specs.Columns.{column_deferred, part_deferred}

-- ---- all later columns, by rows

module _ (G H a : Mat) (D : Diagonals) (n c kb ke : ℕ) (e : H ≡ with_products G D a kb ke n (ke - kb)) (h : kb ≤ ke) where
  product_at : (i k : ℕ) → ke ≤ i → i < n → k < ke - kb → H i k ≡ times_d D (a i) (kb + k)
  unfolding with_products column_product
  product_at i k l g u = ap (λ (M : Mat). M i k) e ∙ rw (lt-ltb k (ke - kb) u, le-leb ke i l, lt-ltb i n g)

  -- the sum is the definition's
  same_sum : (i j : ℕ) → ke ≤ i → i < n → gathered zeroed H (later_row a j kb) 0 (ke - kb) i ≡ acc_of D kb ke (a i) (a j)
  unfolding gathered later_row zeroed
  same_sum i j l g =
      sum_same _ (λ k. times_d D (a i) k ⊗ a j k) (ke - kb) 0 kb zero_f
      (λ k u. let z : 0 + k ≡ k = omega arith in rw (z, product_at i k l g u))

  by_rows : part_deferred a H kb (ke - kb) ke c ke n ≡ deferred_rows n c D kb ke a
  unfolding part_deferred column_deferred deferred_rows row_deferred
  by_rows =
      fun_ext λ i. fun_ext λ j.
      test (leb ke i)
      (λ u. test (ltb i n)
      (λ v. let ki : ke ≤ i = leb-true ke i u in
      let hi : i < n = ltb-true i n v in
      rw (u, v)
      (test (leb j i)
      (λ y. let ji : j ≤ i = leb-true j i y in
      test (ltb j c)
      (λ w. let jc : j < c = ltb-true j c w in
      rw (y, w, lt-ltb j (min (i + 1) c) (omega arith)) (test (leb ke j) (λ x. rw x (ap (λ (z : Float). a i j ⊖ z) (same_sum i j ki hi))) (λ x. rw x)))
      (λ w. let jc : c ≤ j = ltb-false j c w in rw (y, w, le-ltb j (min (i + 1) c) (omega arith), no (leb ke j))))
      (λ y. let ij : i < j = leb-false j i y in rw (y, le-ltb j (min (i + 1) c) (omega arith), no (leb ke j), no (leb ke j && ltb j c)))))
      (λ v. rw (u, v, no (leb j i), no (leb ke j && ltb j c))))
      (λ u. rw (u, no (leb j i), no (leb ke j && ltb j c)))

pub update-whole : (G H a P : Mat) (D : Diagonals) (n c kb ke : ℕ) → kb ≤ ke → H ≡ with_products G D a kb ke n (ke - kb)
    → P ≡ part_deferred a H kb (ke - kb) ke c ke n → P ≡ deferred_rows n c D kb ke a
update-whole G H a P D n c kb ke h e p = p ∙ by_rows G H a D n c kb ke e h
