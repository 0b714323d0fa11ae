-- Laws of a part of a panel that was lent to a kernel and is back. Assumes nothing.
use Prim.Native.Nat.{ℕ, suc, ◌+◌, ◌-◌, ◌*◌, ◌<◌, ◌≤◌}
use mathlib.Core.Path.{◌≡◌, refl, sym, ◌∙◌, ap, fun_ext}
use mathlib.Core.Bool.{Bool, true, false, cond, not, ◌&&◌}
use mathlib.Core.List.{List}
use native.Mathlib.Omega.{arith}
use native.Mathlib.Nat.{mul-le-mul_right, suc-mul, add-mul}
use borrow.Author.Tests.{lt-ltb, le-ltb, le-leb, lt-leb, eq-eqb, ne_eqb, eqb-true, ltb-true, ltb-false}
use lib.Dec.{ltb, leb, eqb}
use lib.ListN.{length, get_or}
use borrow.Rule.Slice.PartMut.{mid_of, put_mid}
use lib.Ieee.{Float, nan, eq, ne}
use Rattle.model.specs.Scalar.{zero_f}
use Rattle.model.specs.Matrix.{Row, Mat, column_start, view, vec, with_column, with_part}
use Rattle.kernels.specs.Rules.{behind, ahead, times, combined}
use Rattle.kernels.proofs.Laws.{vec-put, vec-part}
use Rattle.model.proofs.Cases.{test, cmp, no}
use Rattle.kernels.proofs.Parts.{part, back, mid-count, back_at, runs-back, runs_same}
use Rattle.grid.specs.Rules.{column_of, less_times, less_times_if, RowsPre}

-- ---- any rule

-- rows lo up to hi of the column that begins at s, as they are lent, and the panel with them back as ys
abbrev column_part : List Float → ℕ → ℕ → ℕ → List Float
column_part xs s lo hi = mid_of (lo + s) (hi + s - (lo + s)) xs

abbrev column_back : List Float → ℕ → ℕ → ℕ → List Float → List Float
column_back xs s lo hi ys = put_mid (lo + s) (hi + s - (lo + s)) xs ys

-- a row of places seen as a matrix of n rows: of a list it is `view`
abbrev pub row_view : ℕ → Row → Mat
row_view n f = λ i j. cond (ltb i n) (f (i + j * n)) nan

-- a run of places within one column is a part of that column
pub view-part : (n : ℕ) (f g : Row) (j s lo hi : ℕ) (W N : Row) → s ≡ column_start n j → hi ≤ n → g ≡ with_part f (lo + s) (hi + s) W
    → ((a : ℕ) → lo ≤ a → a < hi → W (a + s) ≡ N a) → row_view n g ≡ with_column (row_view n f) j lo hi N
unfolding with_part with_column
view-part n f g j s lo hi W N at h e same =
    fun_ext λ a. fun_ext λ b.
    test (ltb a n)
    (λ p. let ha : a < n = ltb-true a n p in rw p (ap (λ (g : Row). g (a + b * n)) e ∙
    cmp b j
    (λ l. let m : suc b * n ≤ j * n = mul-le-mul_right n l in rw (lt-leb (lo + s) (a + b * n) (omega (arith, suc-mul b n)), ne_eqb b j (λ x. omega arith)))
    (λ q. rw (q, eq-eqb j j refl)
    (test (ltb a lo)
    (λ r. let l : a < lo = ltb-true a lo r in rw (lt-leb (lo + s) (a + j * n) (omega arith), lt-leb lo a l))
    (λ r. let l : lo ≤ a = ltb-false a lo r in rw (le-leb (lo + s) (a + j * n) (omega arith), le-leb lo a l)
    (test (ltb a hi)
    (λ t. let u : a < hi = ltb-true a hi t in rw (lt-ltb (a + j * n) (hi + s) (omega arith), t) (ap W (omega arith) ∙ same a l u))
    (λ t. let u : hi ≤ a = ltb-false a hi t in rw (le-ltb (a + j * n) (hi + s) (omega arith), t))))))
    (λ g. let m : suc j * n ≤ b * n = mul-le-mul_right n g in
    rw (le-ltb (a + b * n) (hi + s) (omega (arith, suc-mul j n)), no (leb (lo + s) (a + b * n)), ne_eqb b j (λ x. omega arith)))))
    (λ p. rw (p, le-ltb a hi (omega (arith, ltb-false a n p)), no (leb lo a), no (eqb b j)))

-- what is lent of a column
pub column-at : (n : ℕ) (xs : List Float) (j s lo hi t : ℕ) → s ≡ column_start n j → hi ≤ n → t < hi - lo
    → vec (column_part xs s lo hi) t ≡ view n xs (lo + t) j
unfolding vec view
column-at n xs j s lo hi t at h l =
    rw (lt-ltb (lo + t) n (omega arith)) (vec-part (lo + s) (hi + s) xs t (omega arith) ∙ ap (λ (x : ℕ). get_or xs x nan) (omega arith))

-- rows lo up to hi of column j, lent and written by the rule N' of the part's own index: those rows by the rule N
pub column-lent : (n : ℕ) (xs ys : List Float) (j s lo hi : ℕ) (f N' N : Row) → s ≡ column_start n j → hi + j * n ≤ length xs → lo ≤ hi → hi ≤ n
    → length ys ≡ length (column_part xs s lo hi) → vec ys ≡ with_part f 0 (hi - lo) N' → ((t : ℕ) → t < hi - lo → N' t ≡ N (lo + t))
    → view n (column_back xs s lo hi ys) ≡ with_column (view n xs) j lo hi N
unfolding view vec
column-lent n xs ys j s lo hi f N' N at room u h ly e same =
    view-part n (vec xs) _ j s lo hi _ N at h
    (vec-put (lo + s) (hi + s) xs ys (omega arith) (omega arith) (ly ∙ mid-count (lo + s) (hi + s) xs (omega arith) (omega arith)))
    (λ a l g. ap (λ (x : ℕ). vec ys x) {x = a + s - (lo + s)} {y = a - lo} (omega arith) ∙ back_at ys f N' N lo hi a l g e same)

-- ---- the functions that lend

pub scale-lent : (n : ℕ) (xs ys : List Float) (j s lo hi : ℕ) (r : Float) → s ≡ column_start n j → hi + j * n ≤ length xs → lo ≤ hi → hi ≤ n
    → length ys ≡ length (column_part xs s lo hi)
    → vec ys ≡ with_part (vec (column_part xs s lo hi)) 0 (hi - lo) (times (vec (column_part xs s lo hi)) r)
    → view n (column_back xs s lo hi ys) ≡ with_column (view n xs) j lo hi (times (column_of (view n xs) j) r)
unfolding times column_of
scale-lent n xs ys j s lo hi r at room u h ly e =
    column-lent n xs ys j s lo hi _ _ _ at room u h ly e (λ t l. rw (column-at n xs j s lo hi t at h l))

-- ---- a column, and a later one

-- a column ends before a later one begins
pub column-past : (n k j : ℕ) → k < j → column_start n k + n ≤ column_start n j
column-past n k j l = omega (arith, mul-le-mul_right n l, suc-mul k n)

-- what is lent of column c, in a part that begins in row lo of the column at p
later-at : (n : ℕ) (xs : List Float) (p c lo e a s : ℕ) → a < n → lo + p + s ≡ a + column_start n c → s < e - (lo + p)
    → vec (part xs (lo + p) e) s ≡ view n xs a c
unfolding vec view
later-at n xs p c lo e a s h o l = rw (lt-ltb a n h) (vec-part (lo + p) e xs s l ∙ ap (λ (x : ℕ). get_or xs x nan) o)

-- ---- the function that lends two columns, one after the other

-- a run in column k and one in column k + 1
view-two : (n : ℕ) (f g : Row) (k p q lo hi : ℕ) (W X N O : Row) → p ≡ column_start n k → q ≡ column_start n (k + 1) → hi ≤ n
    → g ≡ with_part (with_part f (lo + p) (hi + p) W) (lo + q) (hi + q) X
    → ((a : ℕ) → lo ≤ a → a < hi → W (a + p) ≡ N a) → ((a : ℕ) → lo ≤ a → a < hi → X (a + q) ≡ O a)
    → row_view n g ≡ with_column (with_column (row_view n f) k lo hi N) (k + 1) lo hi O
view-two n f g k p q lo hi W X N O at next h e first second =
    let g' : Row = with_part f (lo + p) (hi + p) W in
    view-part n g' g (k + 1) q lo hi X O next h e second
    ∙ ap (λ (M : Mat). with_column M (k + 1) lo hi O) (view-part n f g' k p lo hi W N at h refl first)

pub two-room : (n k p q lo hi len : ℕ) → p ≡ column_start n k → q ≡ column_start n (k + 1) → RowsPre n (k + 1) lo hi len → hi + p ≤ q
two-room n k p q lo hi len at next pre = omega (arith, pre.rows, add-mul k 1 n)

module _ (n : ℕ) (xs ys : List Float) (k p q lo hi : ℕ) (d11 d21 d22 r : Float) (at : p ≡ column_start n k) (next : q ≡ column_start n (k + 1))
    (pre : RowsPre n (k + 1) lo hi (length xs)) where
  two_lent : Row
  two_lent = vec (part xs (lo + p) (hi + q))

  first-at : (s a : ℕ) → lo ≤ a → a < hi → s ≡ a - lo → two_lent s ≡ view n xs a k
  unfolding two_lent
  first-at s a l u e =
      let room = two-room n k p q lo hi (length xs) at next pre in
      later-at n xs p k lo (hi + q) a s (omega (arith, pre.rows)) (omega arith) (omega arith)

  second_at : (s a : ℕ) → lo ≤ a → a < hi → s ≡ a - lo + (q - p) → two_lent s ≡ view n xs a (k + 1)
  unfolding two_lent
  second_at s a l u e =
      let room = two-room n k p q lo hi (length xs) at next pre in
      later-at n xs p (k + 1) lo (hi + q) a s (omega (arith, pre.rows)) (omega arith) (omega arith)

  first-seen : (a : ℕ) → lo ≤ a → a < hi
      → behind (lo + p) (combined two_lent (ahead (q - p) two_lent) d22 d21 r) (a + p)
      ≡ combined (column_of (view n xs) k) (column_of (view n xs) (k + 1)) d22 d21 r a
  unfolding behind ahead combined column_of
  first-seen a l u = rw (first-at (a + p - (lo + p)) a l u (omega arith), second_at (a + p - (lo + p) + (q - p)) a l u (omega arith))

  second-seen : (a : ℕ) → lo ≤ a → a < hi
      → behind (lo + p) (combined two_lent (behind (q - p) two_lent) d11 d21 r) (a + q)
      ≡ combined (column_of (view n xs) (k + 1)) (column_of (view n xs) k) d11 d21 r a
  unfolding behind combined column_of
  second-seen a l u =
      let room = two-room n k p q lo hi (length xs) at next pre in
      rw (second_at (a + q - (lo + p)) a l u (omega arith), first-at (a + q - (lo + p) - (q - p)) a l u (omega arith))

  two-seen : vec (back xs (lo + p) (hi + q) ys)
      ≡ with_part (with_part (vec xs) (lo + p) (hi + p) (behind (lo + p) (combined two_lent (ahead (q - p) two_lent) d22 d21 r)))
      (lo + q) (hi + q) (behind (lo + p) (combined two_lent (behind (q - p) two_lent) d11 d21 r))
      → view n (back xs (lo + p) (hi + q) ys)
      ≡ with_column (with_column (view n xs) k lo hi (combined (column_of (view n xs) k) (column_of (view n xs) (k + 1)) d22 d21 r)) (k + 1) lo hi
      (combined (column_of (view n xs) (k + 1)) (column_of (view n xs) k) d11 d21 r)
  unfolding view vec
  two-seen w = view-two n (vec xs) _ k p q lo hi _ _ _ _ at next pre.rows w first-seen second-seen

  pub combine-lent : length ys ≡ length (part xs (lo + p) (hi + q))
      → vec ys ≡ with_part (with_part (vec (part xs (lo + p) (hi + q))) 0 (hi - lo)
      (combined (vec (part xs (lo + p) (hi + q))) (ahead (q - p) (vec (part xs (lo + p) (hi + q)))) d22 d21 r)) (q - p) (q - p + (hi - lo))
      (combined (vec (part xs (lo + p) (hi + q))) (behind (q - p) (vec (part xs (lo + p) (hi + q)))) d11 d21 r)
      → view n (back xs (lo + p) (hi + q) ys)
      ≡ with_column (with_column (view n xs) k lo hi (combined (column_of (view n xs) k) (column_of (view n xs) (k + 1)) d22 d21 r)) (k + 1) lo hi
      (combined (column_of (view n xs) (k + 1)) (column_of (view n xs) k) d11 d21 r)
  unfolding two_lent
  combine-lent ly e =
      let room = two-room n k p q lo hi (length xs) at next pre in
      two-seen
      (runs-back xs ys (lo + p) (hi + p) (lo + q) (hi + q) _ _ (omega (arith, pre.up)) (omega (arith, pre.up, pre.rows, add-mul k 1 n))
      (omega (arith, pre.up)) (omega (arith, pre.col)) ly
      (e ∙ runs_same _ _ _ (q - p) (hi - lo) _ _ _ (omega arith) (omega arith) (omega arith)))

-- ---- zero multipliers

not-not : (b : Bool) → not (not b) ≡ b
not-not true = refl
not-not false = refl

-- a part of a column by its own numbers
column-self : (M : Mat) (j lo hi : ℕ) → with_column M j lo hi (λ a. M a j) ≡ M
unfolding with_column
column-self M j lo hi =
    fun_ext λ a. fun_ext λ b. test (eqb b j) (λ p. rw (p, eqb-true b j p) (test (leb lo a && ltb a hi) (λ q. rw q) (λ q. rw q))) (λ p. rw p)

pub less-if-yes : (M P : Mat) (s : Row) (j lo hi : ℕ) (m : Float) → ne m zero_f ≡ true → P ≡ with_column M j lo hi (less_times (column_of M j) s m)
    → P ≡ with_column M j lo hi (less_times_if (column_of M j) s m)
unfolding less_times less_times_if ne
less-if-yes M P s j lo hi m h p = let q : eq m zero_f ≡ false = sym (not-not (eq m zero_f)) ∙ ap not h in p
    ∙ ap (λ (N : Row). with_column M j lo hi N) (fun_ext λ a. rw q)

pub less-if-no : (M : Mat) (s : Row) (j lo hi : ℕ) (m : Float) → ne m zero_f ≡ false → M ≡ with_column M j lo hi (less_times_if (column_of M j) s m)
unfolding less_times_if column_of ne
less-if-no M s j lo hi m h = let q : eq m zero_f ≡ true = sym (not-not (eq m zero_f)) ∙ ap not h in
    sym (ap (λ (N : Row). with_column M j lo hi N) (fun_ext λ a. rw q) ∙ column-self M j lo hi)
