-- A panel lent from row ke of column k on, and back: row i of the part's column j is row ke + i of the panel's column k + j. The multipliers' buffer lent
-- from the multiplier of a step's own place on. Assumes nothing.
use Prim.Native.Nat.{ℕ, suc, ◌+◌, ◌-◌, ◌*◌, ◌<◌, ◌≤◌}
use mathlib.Core.Path.{◌≡◌, refl, sym, ◌∙◌, ap, fun_ext}
use mathlib.Core.List.{List, [], ◌∷◌}
use native.Mathlib.Omega.{arith}
use native.Mathlib.Nat.{mul-le-mul_right, suc-mul, add-mul}
use borrow.Author.Tests.{le-leb, lt-leb, ltb-true, ltb-false}
use borrow.Rule.Slice.PartMut.{mid_of, put_mid}
use lib.Dec.{ltb}
use lib.ListN.{length, get_or, drop, length-drop}
use lib.Seq.{get_or-drop, take_all}
use lib.Ieee.{Float, nan}
use Rattle.model.specs.Matrix.{Row, Mat, view, vec, with_part}
use Rattle.kernels.proofs.Laws.{vec-put}
use Rattle.model.proofs.Cases.{test}
use Rattle.grid.proofs.Laws.{view-at, view_out}
use Rattle.whole.specs.Whole.{below}
use Rattle.whole.proofs.Masked.{within_in, within-before, within-past}
use Rattle.eliminate.specs.Eliminate.{in_panel}
use Rattle.eliminate.proofs.Buffer.{kept_at}
use Rattle.tail.specs.Tail.{from_column}
use Rattle.tail.proofs.From.{Since}

-- ---- a list from a on

-- past its end a list has not-a-number
empty-list : (ys : List Float) (t : ℕ) → length ys ≡ 0 → get_or ys t nan ≡ nan
empty-list [] t e = refl
empty-list (y ∷ ys) t e = absurd (omega arith)

past_end : (xs : List Float) (t : ℕ) → length xs ≤ t → get_or xs t nan ≡ nan
past_end xs t h =
    ap (λ (i : ℕ). get_or xs i nan) {y = length xs + (t - length xs)} (omega arith) ∙ sym (get_or-drop (length xs) xs (t - length xs) nan)
    ∙ empty-list (drop (length xs) xs) (t - length xs) (omega (arith, length-drop (length xs) xs))

module _ (a e : ℕ) (xs : List Float) (end : e ≡ length xs) where
  part-is : mid_of a (e - a) xs ≡ drop a xs
  part-is = take_all (e - a) (drop a xs) (omega (arith, length-drop a xs))

  pub part_at : (t : ℕ) → vec (mid_of a (e - a) xs) t ≡ vec xs (a + t)
  unfolding vec
  part_at t = ap (λ (ys : List Float). get_or ys t nan) part-is ∙ get_or-drop a xs t nan

  pub part_length : length (mid_of a (e - a) xs) ≡ e - a
  part_length = ap length part-is ∙ length-drop a xs ∙ ap (λ (n : ℕ). n - a) (sym end)

  -- the same where a is the place b
  pub part_count : (b : ℕ) → a ≡ b → length (mid_of a (e - a) xs) ≡ e - b
  part_count b at = part_length ∙ ap (λ (n : ℕ). e - n) at

  module _ (ys : List Float) (h : a ≤ e) (ly : length ys ≡ length (mid_of a (e - a) xs)) where
    same_length : length ys ≡ e - a
    same_length = ly ∙ part_length

    back-before : (t : ℕ) → t < a → vec (put_mid a (e - a) xs ys) t ≡ vec xs t
    unfolding with_part
    back-before t l = ap (λ (f : Row). f t) (vec-put a e xs ys h (omega arith) same_length) ∙ rw (lt-leb a t l)

    back_from : (t : ℕ) → a ≤ t → vec (put_mid a (e - a) xs ys) t ≡ vec ys (t - a)
    unfolding with_part vec
    back_from t l =
        ap (λ (f : Row). f t) (vec-put a e xs ys h (omega arith) same_length)
        ∙ rw (le-leb a t l)
        (test (ltb t e)
        (λ u. rw u)
        (λ u. let v : e ≤ t = ltb-false t e u in rw u (past_end xs t (omega arith) ∙ sym (past_end ys (t - a) (omega (arith, same_length))))))

-- ---- a panel of n rows, from row ke of column k on

module _ (n ke k a e : ℕ) (xs : List Float) (rows : ke ≤ n) (start : a ≡ ke + k * n) (end : e ≡ length xs) where
  -- the part's rows below the panel
  part-row : (i j : ℕ) → i < n - ke → view n (mid_of a (e - a) xs) i j ≡ view n xs (ke + i) (k + j)
  unfolding vec
  part-row i j h =
      view-at n (mid_of a (e - a) xs) i j (omega arith) ∙ part_at a e xs end (i + j * n)
      ∙ ap (λ (t : ℕ). get_or xs t nan) {x = a + (i + j * n)} {y = ke + i + (k + j) * n} (omega (arith, add-mul k j n))
      ∙ sym (view-at n xs (ke + i) (k + j) (omega arith))

  module _ (ys : List Float) (f : Row → Row) (h : a ≤ e) (ly : length ys ≡ length (mid_of a (e - a) xs)) (since : Since k f)
      (ey : view n ys ≡ below 0 (n - ke) (from_column k f) (view n (mid_of a (e - a) xs))) where
    back : List Float
    back = put_mid a (e - a) xs ys

    -- a place before the part
    before : (i j : ℕ) → i < n → i + j * n < a → view n back i j ≡ view n xs i j
    unfolding back vec
    before i j g l = view-at n (put_mid a (e - a) xs ys) i j g ∙ back-before a e xs end ys h ly (i + j * n) l ∙ sym (view-at n xs i j g)

    -- a place of it: row p of its column q
    inside : (i j p q : ℕ) → i < n → p < n → i + j * n ≡ a + (p + q * n) → view n back i j ≡ view n ys p q
    unfolding back vec
    inside i j p q g l o =
        view-at n (put_mid a (e - a) xs ys) i j g ∙ back_from a e xs end ys h ly (i + j * n) (omega arith)
        ∙ ap (λ (t : ℕ). get_or ys t nan) {y = p + q * n} (omega arith) ∙ sym (view-at n ys p q l)

    -- a row above the panel's end is as it was
    above : (i j : ℕ) → i < ke → view n back i j ≡ view n xs i j
    unfolding below vec
    above i j l =
        test (ltb k j)
        (λ t. let g : k < j = ltb-true k j t in
        let m : suc k * n ≤ j * n = mul-le-mul_right n g in
        let s = suc-mul k n in
        let r : (j - k - 1) * n + (k + 1) * n ≡ j * n = sym (add-mul (j - k - 1) (k + 1) n) ∙ ap (λ (z : ℕ). z * n) {y = j} (omega arith) in
        let o : i + j * n ≡ a + (n - ke + i + (j - k - 1) * n) = omega (arith, add-mul k 1 n) in
        inside i j (n - ke + i) (j - k - 1) (omega arith) (omega arith) o
        ∙ ap (λ (M : Mat). M (n - ke + i) (j - k - 1)) ey ∙ rw (within-past 0 (n - ke) (n - ke + i) (omega arith))
        (view-at n (mid_of a (e - a) xs) (n - ke + i) (j - k - 1) (omega arith) ∙ part_at a e xs end (n - ke + i + (j - k - 1) * n)
        ∙ ap (λ (t : ℕ). get_or xs t nan) {y = i + j * n} (omega arith) ∙ sym (view-at n xs i j (omega arith))))
        (λ t. let g : j ≤ k = ltb-false k j t in
        let m : j * n ≤ k * n = mul-le-mul_right n g in
        before i j (omega arith) (omega arith))

    -- a row from there down went through f
    lower : (i j : ℕ) → ke ≤ i → i < n → view n back i j ≡ f (view n xs i) j
    unfolding below from_column
    lower i j l g =
        test (ltb j k)
        (λ t. let u : j < k = ltb-true j k t in
        let m : suc j * n ≤ k * n = mul-le-mul_right n u in
        before i j g (omega (arith, suc-mul j n)) ∙ sym (since.before (view n xs i) j u))
        (λ t. let u : k ≤ j = ltb-false j k t in
        let r : (j - k) * n + k * n ≡ j * n = sym (add-mul (j - k) k n) ∙ ap (λ (z : ℕ). z * n) {y = j} (omega arith) in
        inside i j (i - ke) (j - k) g (omega arith) (omega arith)
        ∙ ap (λ (M : Mat). M (i - ke) (j - k)) ey ∙ rw (within_in 0 (n - ke) (i - ke) (omega arith) (omega arith))
        (since.alike (λ c. view n (mid_of a (e - a) xs) (i - ke) (c - k)) (view n xs i)
        (λ c v. part-row (i - ke) (c - k) (omega arith) ∙ ap (λ (p : ℕ). view n xs p (k + (c - k))) {y = i} (omega arith) ∙ ap (view n xs i) (omega arith))
        (k + (j - k)) (omega arith)
        ∙ ap (f (view n xs i)) (omega arith)))

    pub lent_rows : view n (put_mid a (e - a) xs ys) ≡ below ke n f (view n xs)
    unfolding back below
    lent_rows =
        fun_ext λ i. fun_ext λ j.
        test (ltb i n)
        (λ t. let g : i < n = ltb-true i n t in
        test (ltb i ke)
        (λ u. let l : i < ke = ltb-true i ke u in above i j l ∙ rw (within-before ke n i l))
        (λ u. let l : ke ≤ i = ltb-false i ke u in lower i j l g ∙ rw (within_in ke n i l g)))
        (λ t. let g : n ≤ i = ltb-false i n t in
        view_out n (put_mid a (e - a) xs ys) i j g ∙ sym (rw (within-past ke n i g) (view_out n xs i j g)))

-- ---- the multipliers from row and column k on

pub kept_from : (nb kb ke k a e : ℕ) (xs : List Float) → kb ≤ k → ke ≤ kb + nb → a ≡ k - kb + (k - kb) * nb → e ≡ length xs → (j c : ℕ) → k + j < ke
    → k + c < ke → view nb (mid_of a (e - a) xs) j c ≡ in_panel kb ke (view nb xs) (k + j) (k + c)
kept_from nb kb ke k a e xs h w s t j c hj hc =
    part-row nb (k - kb) (k - kb) a e xs (omega arith) s t j c (omega arith)
    ∙ ap (λ (p : ℕ). view nb xs p (k - kb + c)) {y = k + j - kb} (omega arith) ∙ ap (view nb xs (k + j - kb)) {y = k + c - kb} (omega arith)
    ∙ kept_at kb ke (view nb xs) (k + j) (k + c) (omega arith) hj (omega arith) hc
