-- Laws of the exchange of two columns: a run of each stands where the other's stood. Assumes nothing.
use Prim.Native.Nat.{ℕ, min, max, ◌+◌, ◌-◌, ◌*◌, ◌<◌, ◌≤◌}
use mathlib.Core.Path.{◌≡◌, refl, sym, ◌∙◌, ap, fun_ext}
use mathlib.Core.Bool.{◌&&◌}
use mathlib.Core.List.{List, ◌++◌}
use native.Mathlib.Omega.{arith}
use borrow.Author.Tests.{lt-ltb, le-ltb, le-leb, lt-leb, ne_eqb, eqb-true, ltb-true, ltb-false, leb-true}
use lib.Dec.{ltb, leb, eqb}
use lib.ListN.{length, take, drop, get_or-append, length-drop}
use lib.Seq.{get_or-take, get_or-drop, get_or-append_right, length-take-le}
use borrow.Rule.Slice.PartMut.{mid_of, put_mid, same_len_mid}
use lib.Ieee.{Float, nan}
use Rattle.model.specs.Matrix.{Row, Mat, column_start, view, vec, with_part, with_column}
use Rattle.model.proofs.Cases.{test, cmp, no}
use Rattle.kernels.proofs.Laws.{vec-put, vec-part}
use Rattle.kernels.proofs.Parts.{mid-count}
use Rattle.grid.specs.Rules.{columns_exchanged, ExchangePre}
use Rattle.grid.proofs.Laws.{view-at}
use Rattle.grid.proofs.Parts.{view-part, column-past}

pub exchange-same : (M : Mat) (p q lo hi : ℕ) → p ≡ q → M ≡ columns_exchanged M p q lo hi
unfolding columns_exchanged
exchange-same M p q lo hi e =
    rw e (fun_ext λ a. fun_ext λ b. test (leb lo a && ltb a hi) (λ u. rw u (test (eqb b q) (λ v. rw v (ap (M a) (eqb-true b q v))) (λ v. rw v))) (λ u. rw u))

-- ---- one slice, cut at c: a run from x up to x' before the cut, and one as long from y up to y' after it

module _ (xs : List Float) (c x x' y y' : ℕ) (one : x ≤ x') (early : x' ≤ c) (late : c + y' ≤ length xs) (same : c + y + (x' - x) ≡ c + y') where
  -- its two parts, each with the other's run in the place of its own
  abbrev before : List Float
  before = put_mid x (x' - x) (take c xs) (mid_of y (y' - y) (drop c xs))

  abbrev after : List Float
  after = put_mid y (y' - y) (drop c xs) (mid_of x (x' - x) (take c xs))

  count-before : length (take c xs) ≡ c
  count-before = length-take-le c xs (omega arith)

  before-seen : (t : ℕ) → t < c → vec before t ≡ with_part (vec xs) x x' (λ t. vec xs (c + y + (t - x))) t
  unfolding with_part vec
  before-seen t l =
      ap (λ (f : Row). f t) (vec-put x x' (take c xs) (mid_of y (y' - y) (drop c xs)) one (omega (arith, count-before))
      (mid-count y y' (drop c xs) (omega arith) (omega (arith, length-drop c xs)) ∙ omega arith))
      ∙ test (leb x t)
      (λ p. test (ltb t x')
      (λ q. rw (p, q) (vec-part y y' (drop c xs) (t - x) (omega (arith, leb-true x t p, ltb-true t x' q)) ∙ get_or-drop c xs (y + (t - x)) nan
      ∙ ap (vec xs) (omega arith)))
      (λ q. rw (p, q) (get_or-take c xs t nan l)))
      (λ p. rw p (get_or-take c xs t nan l))

  after-seen : (t : ℕ) → vec after t ≡ with_part (λ t. vec xs (c + t)) y y' (λ t. vec xs (x + (t - y))) t
  unfolding with_part vec
  after-seen t =
      ap (λ (f : Row). f t) (vec-put y y' (drop c xs) (mid_of x (x' - x) (take c xs)) (omega arith) (omega (arith, length-drop c xs))
      (mid-count x x' (take c xs) one (omega (arith, count-before)) ∙ omega arith))
      ∙ test (leb y t)
      (λ p. test (ltb t y')
      (λ q. rw (p, q) (vec-part x x' (take c xs) (t - y) (omega (arith, leb-true y t p, ltb-true t y' q))
      ∙ get_or-take c xs (x + (t - y)) nan (omega (arith, leb-true y t p, ltb-true t y' q))))
      (λ q. rw (p, q) (get_or-drop c xs t nan)))
      (λ p. rw p (get_or-drop c xs t nan))

  pub turned-seen : vec (before ++ after)
      ≡ with_part (with_part (vec xs) x x' (λ t. vec xs (c + y + (t - x)))) (c + y) (c + y') (λ t. vec xs (x + (t - (c + y))))
  unfolding with_part vec
  turned-seen =
      let count : length before ≡ c =
      same_len_mid x (x' - x) (take c xs) (mid_of y (y' - y) (drop c xs))
      (mid-count y y' (drop c xs) (omega arith) (omega (arith, length-drop c xs)) ∙ omega arith
      ∙ sym (mid-count x x' (take c xs) one (omega (arith, count-before)))) ∙ count-before in
      fun_ext λ t.
      test (ltb t c)
      (λ p. let l : t < c = ltb-true t c p in
      rw (lt-leb (c + y) t (omega arith)) (get_or-append before after nan t (omega arith) ∙ before-seen t l))
      (λ p. let l : c ≤ t = ltb-false t c p in
      get_or-append_right before after t nan (omega arith) ∙ ap (vec after) (omega arith) ∙ after-seen (t - c)
      ∙ test (ltb (t - c) y)
      (λ q. let u : t - c < y = ltb-true (t - c) y q in
      rw (lt-leb y (t - c) u, lt-leb (c + y) t (omega arith), le-ltb t x' (omega arith), no (leb x t)) (ap (vec xs) (omega arith)))
      (λ q. let u : y ≤ t - c = ltb-false (t - c) y q in
      rw (le-leb y (t - c) u, le-leb (c + y) t (omega arith))
      (test (ltb (t - c) y')
      (λ r. rw (r, lt-ltb t (c + y') (omega (arith, ltb-true (t - c) y' r))) (ap (vec xs) (omega arith)))
      (λ r. rw (r, le-ltb t (c + y') (omega (arith, ltb-false (t - c) y' r)), le-ltb t x' (omega arith), no (leb x t)) (ap (vec xs) (omega arith))))))

-- ---- of two columns, j the earlier and k the later

columns-turned : (M : Mat) (j k lo hi : ℕ) → j < k → with_column (with_column M j lo hi (λ a. M a k)) k lo hi (λ a. M a j) ≡ columns_exchanged M j k lo hi
unfolding with_column columns_exchanged
columns-turned M j k lo hi l =
    fun_ext λ a. fun_ext λ b.
    test (leb lo a && ltb a hi)
    (λ w. rw w
    (test (eqb b k)
    (λ u. rw (u, eqb-true b k u, ne_eqb k j (λ e. omega arith)))
    (λ u. rw u (test (eqb b j) (λ v. rw v) (λ v. rw v)))))
    (λ w. rw (w, no (eqb b k), no (eqb b j)))

columns-other : (M : Mat) (p q lo hi : ℕ) → columns_exchanged M q p lo hi ≡ columns_exchanged M p q lo hi
unfolding columns_exchanged
columns-other M p q lo hi =
    fun_ext λ a. fun_ext λ b.
    test (leb lo a && ltb a hi)
    (λ w. rw w
    (test (eqb b p)
    (λ u. rw u (test (eqb b q) (λ v. rw v (ap (M a) (sym (eqb-true b p u) ∙ eqb-true b q v))) (λ v. rw v)))
    (λ u. rw u)))
    (λ w. rw w)

module _ (n : ℕ) (xs : List Float) (lo hi : ℕ) (rows : hi ≤ n) (up : lo ≤ hi) where
  in-order : (j k e l : ℕ) → j < k → hi + k * n ≤ length xs → e ≡ column_start n j → l ≡ column_start n k
      → view n (put_mid (lo + e) (hi + e - (lo + e)) (take l xs) (mid_of lo (hi - lo) (drop l xs))
      ++ put_mid lo (hi - lo) (drop l xs) (mid_of (lo + e) (hi + e - (lo + e)) (take l xs)))
      ≡ columns_exchanged (view n xs) j k lo hi
  unfolding view vec
  in-order j k e l o room at next =
      let far = column-past n j k o in
      let W : Row = λ t. vec xs (l + lo + (t - (lo + e))) in
      let X : Row = λ t. vec xs (lo + e + (t - (l + lo))) in
      let g : Row = with_part (vec xs) (lo + e) (hi + e) W in
      let seen = turned-seen xs l (lo + e) (hi + e) lo hi (omega arith) (omega arith) (omega arith) (omega arith) in
      view-part n g _ k l lo hi X (λ a. view n xs a j) next rows
      (seen ∙ ap (λ (z : ℕ). with_part g z (l + hi) X) {x = l + lo} {y = lo + l} (omega arith) ∙ ap (λ (z : ℕ). with_part g (lo + l) z X) (omega arith))
      (λ a u v. ap (vec xs) (omega arith) ∙ sym (view-at n xs a j (omega arith)))
      ∙ ap (λ (M : Mat). with_column M k lo hi (λ a. view n xs a j))
      (view-part n (vec xs) g j e lo hi W (λ a. view n xs a k) at rows refl (λ a u v. ap (vec xs) (omega arith) ∙ sym (view-at n xs a k (omega arith))))
      ∙ columns-turned (view n xs) j k lo hi o

pub exchange-lent : (n : ℕ) (xs : List Float) (p q e l lo hi : ℕ) (xs₁ xs₂ ys₁ ys₂ : List Float) → ExchangePre n p q lo hi (length xs) → (p ≡ q → ⊥)
    → e ≡ column_start n (min p q) → l ≡ column_start n (max p q) → xs₁ ≡ take l xs → xs₂ ≡ drop l xs → ys₁ ≡ mid_of lo (hi - lo) xs₂
    → ys₂ ≡ mid_of (lo + e) (hi + e - (lo + e)) xs₁
    → view n (put_mid (lo + e) (hi + e - (lo + e)) xs₁ ys₁ ++ put_mid lo (hi - lo) xs₂ ys₂) ≡ columns_exchanged (view n xs) p q lo hi
exchange-lent n xs p q e l lo hi xs₁ xs₂ ys₁ ys₂ pre apart at next a b c d =
    rw (d, c, a, b)
    (cmp p q
    (λ o. in-order n xs lo hi pre.rows pre.up p q e l o pre.other (at ∙ ap (column_start n) (omega arith)) (next ∙ ap (column_start n) (omega arith)))
    (λ o. absurd (apart o))
    (λ o. in-order n xs lo hi pre.rows pre.up q p e l o pre.one (at ∙ ap (column_start n) (omega arith)) (next ∙ ap (column_start n) (omega arith))
    ∙ columns-other (view n xs) p q lo hi))
