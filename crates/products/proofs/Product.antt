-- Laws of L-as-D: a column of g lent, the three cases of a column, one column more. Assumes nothing.
use Prim.Native.Nat.{ℕ, ◌+◌, ◌-◌, ◌*◌, ◌<◌, ◌≤◌}
use mathlib.Core.Path.{◌≡◌, refl, sym, ◌∙◌, ap, fun_ext}
use mathlib.Core.Bool.{Bool, true, false}
use mathlib.Core.List.{List}
use lib.ListN.{length, get_or}
use lib.Ieee.{Float, nan}
use native.Mathlib.Nat.{add-mul, mul-le-mul_right}
use native.Mathlib.Omega.{arith}
use borrow.Author.Tests.{lt-ltb, le-ltb, eq-eqb, ne_eqb}
use borrow.Rule.Slice.PartMut.{mid_of, put_mid}
use Rattle.model.specs.Matrix.{Row, Mat, column_start, view, vec, naturals, with_column, with_part}
use Rattle.model.specs.Step.{Diagonals, diagonals_of, ends_block}
use Rattle.model.specs.Panel.{times_d}
use Rattle.model.proofs.Cases.{cmp}
use Rattle.grid.specs.Rules.{column_of}
use Rattle.kernels.specs.Rules.{times, blended}
use Rattle.grid.proofs.Parts.{column-at, column-lent}
use Rattle.products.specs.Products.{column_product, with_products, ProductPre, ProductsPre}

-- ---- a column of g, lent

-- s is where its column begins, u and v where the panel's do
pub scale-lent : (n : ℕ) (gs hs xs : List Float) (t k lo s u : ℕ) (r : Float) → s ≡ column_start n t → u ≡ column_start n k → lo ≤ n → n + t * n ≤ length gs
    → length hs ≡ length (mid_of (lo + s) (n + s - (lo + s)) gs)
    → vec hs ≡ with_part (vec (mid_of (lo + s) (n + s - (lo + s)) gs)) 0 (n - lo) (times (vec (mid_of (lo + u) (n + u - (lo + u)) xs)) r)
    → view n (put_mid (lo + s) (n + s - (lo + s)) gs hs) ≡ with_column (view n gs) t lo n (times (column_of (view n xs) k) r)
unfolding times column_of
scale-lent n gs hs xs t k lo s u r own source h out l e =
    column-lent n gs hs t s lo n _ _ _ own out h (omega arith) l e (λ i g. rw (column-at n xs k u lo n i source (omega arith) g))

pub blend-lent : (n : ℕ) (gs hs xs : List Float) (t k j lo s u v : ℕ) (p q : Float) → s ≡ column_start n t → u ≡ column_start n k → v ≡ column_start n j → lo ≤ n
    → n + t * n ≤ length gs → length hs ≡ length (mid_of (lo + s) (n + s - (lo + s)) gs)
    → vec hs ≡ with_part (vec (mid_of (lo + s) (n + s - (lo + s)) gs)) 0 (n - lo)
    (blended (vec (mid_of (lo + u) (n + u - (lo + u)) xs)) (vec (mid_of (lo + v) (n + v - (lo + v)) xs)) p q)
    → view n (put_mid (lo + s) (n + s - (lo + s)) gs hs) ≡ with_column (view n gs) t lo n (blended (column_of (view n xs) k) (column_of (view n xs) j) p q)
unfolding blended column_of
blend-lent n gs hs xs t k j lo s u v p q own source other h out l e =
    column-lent n gs hs t s lo n _ _ _ own out h (omega arith) l e
    (λ i g. rw (column-at n xs k u lo n i source (omega arith) g, column-at n xs j v lo n i other (omega arith) g))

-- ---- L-as-D of one column

module _ (G P a : Mat) (ds ss : List Float) (bs : List ℕ) (t lo n k : ℕ) where
  pub product-first : get_or bs k 0 ≡ 1 → P ≡ with_column G t lo n (blended (column_of a k) (column_of a (k + 1)) (get_or ds k nan) (get_or ss k nan))
      → P ≡ with_column G t lo n (column_product (diagonals_of ds ss bs) a k)
  unfolding column_product times_d blended column_of vec naturals
  product-first h e = e ∙ ap (λ (N : Row). with_column G t lo n N) (fun_ext λ i. rw (eq-eqb (get_or bs k 0) 1 h))

  pub product-second : (b : Bool) → (get_or bs k 0 ≡ 1 → ⊥) → b ≡ ends_block (naturals bs) k → b ≡ true
      → P ≡ with_column G t lo n (blended (column_of a (k - 1)) (column_of a k) (get_or ss (k - 1) nan) (get_or ds k nan))
      → P ≡ with_column G t lo n (column_product (diagonals_of ds ss bs) a k)
  unfolding column_product times_d blended column_of vec naturals
  product-second b h f g e = e ∙ ap (λ (N : Row). with_column G t lo n N) (fun_ext λ i. rw (ne_eqb (get_or bs k 0) 1 h, sym f ∙ g))

  pub product-plain : (b : Bool) → (get_or bs k 0 ≡ 1 → ⊥) → b ≡ ends_block (naturals bs) k → b ≡ false
      → P ≡ with_column G t lo n (times (column_of a k) (get_or ds k nan)) → P ≡ with_column G t lo n (column_product (diagonals_of ds ss bs) a k)
  unfolding column_product times_d times column_of vec naturals
  product-plain b h f g e = e ∙ ap (λ (N : Row). with_column G t lo n N) (fun_ext λ i. rw (ne_eqb (get_or bs k 0) 1 h, sym f ∙ g))

-- ---- L-as-D of all columns

products-more : (G : Mat) (D : Diagonals) (a : Mat) (kb lo hi m : ℕ)
    → with_column (with_products G D a kb lo hi m) m lo hi (column_product D a (kb + m)) ≡ with_products G D a kb lo hi (m + 1)
unfolding with_column with_products
products-more G D a kb lo hi m =
    fun_ext λ i. fun_ext λ t.
    cmp t m
    (λ l. rw (ne_eqb t m (λ x. omega arith), lt-ltb t m l, lt-ltb t (m + 1) (omega arith)))
    (λ e. rw (e, eq-eqb m m refl, le-ltb m m (omega arith), lt-ltb m (m + 1) (omega arith)))
    (λ g. rw (ne_eqb t m (λ x. omega arith), le-ltb t m (omega arith), le-ltb t (m + 1) (omega arith)))

pub products-none : (G : Mat) (D : Diagonals) (a : Mat) (kb lo hi : ℕ) → G ≡ with_products G D a kb lo hi (kb - kb)
unfolding with_products
products-none G D a kb lo hi = fun_ext λ i. fun_ext λ t. rw (le-ltb t (kb - kb) (omega arith))

pub products-step : (G P Q : Mat) (D : Diagonals) (a : Mat) (kb lo hi k : ℕ) → kb ≤ k → P ≡ with_products G D a kb lo hi (k - kb)
    → Q ≡ with_column P (k - kb) lo hi (column_product D a k) → Q ≡ with_products G D a kb lo hi (k + 1 - kb)
products-step G P Q D a kb lo hi k h p q =
    let x : kb + (k - kb) ≡ k = omega arith in
    let y : k - kb + 1 ≡ k + 1 - kb = omega arith in
    q ∙ rw (p, ← y) (rw x at (products-more G D a kb lo hi (k - kb)))

pub products-pre : (n kb ke k glen glen' len dlen slen : ℕ) (bs : List ℕ) → ProductsPre n kb ke glen len dlen slen bs → kb ≤ k → k < ke → glen' ≡ glen
    → ProductPre n (k - kb) k ke glen' len dlen slen bs
unfolding naturals
products-pre n kb ke k glen glen' len dlen slen bs h l g e =
    let room : (k - kb + 1) * n ≤ (ke - kb) * n = mul-le-mul_right n (omega arith) in
    let here : (k + 1) * n ≤ ke * n = mul-le-mul_right n (omega arith) in
    record {
      rows = h.rows;
      out = omega (arith, add-mul (k - kb) 1 n);
      column = omega (arith, add-mul k 1 n);
      pivot = omega arith;
      sub = omega arith;
      flag = omega arith;
      block = λ b. let u : k + 2 ≤ ke = last b in let m : (k + 2) * n ≤ ke * n = mul-le-mul_right n u in omega (arith, add-mul k 2 n);
    }
  where
    last : get_or bs k 0 ≡ 1 → k + 2 ≤ ke
    last b = cmp (k + 1) ke (λ l. omega arith) (λ e. absurd (h.closed (ap (λ (x : ℕ). get_or bs x 0) (omega arith) ∙ b))) (λ l. omega arith)
