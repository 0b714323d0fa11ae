-- Laws of a sum that is finite: then so is each of its terms; and of the loops that add. Assumes nothing.
use Prim.Native.Nat.{ℕ, zero, suc, ◌+◌, ◌-◌, ◌*◌, ◌/◌, ◌%◌, ◌<◌, ◌≤◌}
use mathlib.Core.Path.{◌≡◌, refl, sym, ◌∙◌, ap}
use mathlib.Core.Bool.{true}
use mathlib.Core.List.{List, ◌++◌}
use native.Mathlib.Omega.{arith}
use borrow.Author.Tests.{lt-ltb, le-ltb, ltb-true, ltb-false, eqb-true, eqb-false}
use borrow.Rule.Slice.PartMut.{mid_of}
use lib.Dec.{ltb, eqb}
use lib.ListN.{length, get_or, take, drop}
use lib.Ieee.{Float, nan}
use Rattle.model.specs.Scalar.{◌⊕◌, zero_f, is_finite}
use Rattle.model.specs.Matrix.{Row, column_start, view, vec}
use Rattle.model.specs.Panel.{sum_from}
use Rattle.model.proofs.Cases.{test, one_left, none_left}
use Rattle.model.proofs.Finite.{plus-l, plus-r}
use Rattle.model.proofs.Summed.{sum_same}
use Rattle.std.proofs.lemmas.List.{length-append, length-drop, get_or-drop, get_or-append-add, get_or_append_left, take_all}
use Rattle.grid.proofs.Parts.{column-at}
use Rattle.kernels.proofs.Parts.{mid-count}
use Rattle.total.specs.Finite.{every_second, sixteen, long_sum, sum_of, column_sum}

-- ---- a running sum: what it begins with, a term, other terms; its loop's begin, a turn, the end

sum-begin : (f : Row) (c n : ℕ) (s : Float) → is_finite (sum_from f c n s) ≡ true → is_finite s ≡ true
unfolding sum_from
sum-begin f c zero s e = e
sum-begin f c (suc n) s e = plus-l s (f c) (sum-begin f (c + 1) n (s ⊕ f c) e)

pub sum-term : (f : Row) (c n : ℕ) (s : Float) (k : ℕ) → is_finite (sum_from f c n s) ≡ true → k < n → is_finite (f (c + k)) ≡ true
unfolding sum_from
sum-term f c zero s k e h = absurd (omega arith)
sum-term f c (suc n) s zero e h = ap (λ (i : ℕ). is_finite (f i)) (omega arith) ∙ plus-r s (f c) (sum-begin f (c + 1) n (s ⊕ f c) e)
sum-term f c (suc n) s (suc k) e h = ap (λ (i : ℕ). is_finite (f i)) (omega arith) ∙ sum-term f (c + 1) n (s ⊕ f c) k e (omega arith)

pub sum-turn : (f : Row) (n i : ℕ) (s y S : Float) → i < n → y ≡ f i → sum_from f i (n - i) s ≡ S → sum_from f (i + 1) (n - (i + 1)) (s ⊕ y) ≡ S
unfolding sum_from
sum-turn f n i s y S h e p = rw e (sym (rw (one_left n i h)) ∙ p)

pub sum-end : (f : Row) (n i : ℕ) (s S : Float) → n ≤ i → sum_from f i (n - i) s ≡ S → s ≡ S
unfolding sum_from
sum-end f n i s S h p = sym (rw (none_left n i h)) ∙ p

-- the numbers of a list
pub short-turn : (xs : List Float) (n i : ℕ) (s S : Float) → i < n → sum_from (vec xs) i (n - i) s ≡ S
    → sum_from (vec xs) (i + 1) (n - (i + 1)) (s ⊕ get_or xs i nan) ≡ S
unfolding vec
short-turn xs n i s S h p = sum-turn (vec xs) n i s (get_or xs i nan) S h refl p

-- ---- eight terms, every second number

eight-terms : (f : Row) (i : ℕ) → is_finite (every_second f i) ≡ true → (u : ℕ) → u < 8 → is_finite (f (i + 2 * u)) ≡ true
unfolding every_second
eight-terms f i e zero h = ap (λ (n : ℕ). is_finite (f n)) (omega arith) ∙ plus-l _ _ (plus-l _ _ (plus-l _ _ e))
eight-terms f i e (suc zero) h = plus-r _ _ (plus-l _ _ (plus-l _ _ e))
eight-terms f i e (suc (suc zero)) h = plus-l _ _ (plus-r _ _ (plus-l _ _ e))
eight-terms f i e (suc (suc (suc zero))) h = plus-r _ _ (plus-r _ _ (plus-l _ _ e))
eight-terms f i e (suc (suc (suc (suc zero)))) h = plus-l _ _ (plus-l _ _ (plus-r _ _ e))
eight-terms f i e (suc (suc (suc (suc (suc zero))))) h = plus-r _ _ (plus-l _ _ (plus-r _ _ e))
eight-terms f i e (suc (suc (suc (suc (suc (suc zero)))))) h = plus-l _ _ (plus-r _ _ (plus-r _ _ e))
eight-terms f i e (suc (suc (suc (suc (suc (suc (suc zero))))))) h = plus-r _ _ (plus-r _ _ (plus-r _ _ e))
eight-terms f i e (suc (suc (suc (suc (suc (suc (suc (suc u)))))))) h = absurd (omega arith)

-- the same numbers, counted from i and from j
eight-same : (f g : Row) (i j : ℕ) → ((u : ℕ) → u < 15 → f (i + u) ≡ g (j + u)) → every_second f i ≡ every_second g j
unfolding every_second
eight-same f g i j h =
    let first : f i ≡ g j = ap f (omega arith) ∙ h 0 (omega arith) ∙ ap g (omega arith) in
    rw (
      first,
      h 2 (omega arith),
      h 4 (omega arith),
      h 6 (omega arith),
      h 8 (omega arith),
      h 10 (omega arith),
      h 12 (omega arith),
      h 14 (omega arith),
    )

-- ---- sixteen numbers or more: the first sixteen and the sixteens that end with the last number

sixteen-same : (f g : Row) (p q m : ℕ) (s : Float) → ((u : ℕ) → u + 1 < 16 * m → f (p + u) ≡ g (q + u))
    → sum_from (sixteen f p) 0 m s ≡ sum_from (sixteen g q) 0 m s
unfolding sixteen
sixteen-same f g p q m s h =
    sum_same (sixteen f p) (sixteen g q) m 0 0 s (λ k r.
    eight-same f g (16 * (0 + k) + p) (16 * (0 + k) + q) (λ u l. ap f (omega arith) ∙ h (16 * k + u) (omega arith) ∙ ap g (omega arith)))

-- a turn of the loop over them: c are the sixteen that come, ys those that are left, and p is 0 for the numbers at even places, 1 for the others
pub sixteen-turn : (xs c ys : List Float) (p : ℕ) (s y S : Float) → xs ≡ c ++ ys → length c ≡ 16 → p < 2 → y ≡ every_second (vec c) p
    → sum_from (sixteen (vec xs) p) 0 (length xs / 16) s ≡ S → sum_from (sixteen (vec ys) p) 0 (length ys / 16) (s ⊕ y) ≡ S
unfolding sum_from sixteen vec
sixteen-turn xs c ys p s y S e l r h w =
    let count : length xs ≡ length c + length ys = ap length e ∙ length-append c ys in
    let turns : length xs / 16 ≡ suc (length ys / 16) = omega (arith, count) in
    let here : sixteen (vec xs) p 0 ≡ y =
    eight-same (vec xs) (vec c) (16 * 0 + p) p (λ u g.
    ap (λ (z : List Float). get_or z (16 * 0 + p + u) nan) e ∙ get_or_append_left c ys nan (16 * 0 + p + u) (omega arith)
    ∙ ap (λ (i : ℕ). get_or c i nan) (omega arith))
    ∙ sym h in
    let later : sum_from (sixteen (vec ys) p) 0 (length ys / 16) (s ⊕ y) ≡ sum_from (sixteen (vec xs) p) 1 (length ys / 16) (s ⊕ y) =
    sum_same (sixteen (vec ys) p) (sixteen (vec xs) p) (length ys / 16) 0 1 (s ⊕ y) (λ k g.
    eight-same (vec ys) (vec xs) (16 * (0 + k) + p) (16 * (1 + k) + p) (λ u q.
    sym (ap (λ (z : List Float). get_or z (16 * (1 + k) + p + u) nan) e
    ∙ ap (λ (i : ℕ). get_or (c ++ ys) i nan) (omega (arith, l)) ∙ get_or-append-add c ys (16 * (0 + k) + p + u) nan))) in
    let whole : sum_from (sixteen (vec xs) p) 1 (length ys / 16) (s ⊕ sixteen (vec xs) p 0) ≡ S = rw turns at w in
    later ∙ ap (λ (x : Float). sum_from (sixteen (vec xs) p) 1 (length ys / 16) (s ⊕ x)) (sym here) ∙ whole

-- its end: what is left is no sixteen
pub sixteen_end : (xs : List Float) (p : ℕ) (s S : Float) → length xs < 16 → sum_from (sixteen (vec xs) p) 0 (length xs / 16) s ≡ S → s ≡ S
unfolding sum_from
sixteen_end xs p s S h w = let none : length xs / 16 ≡ 0 = omega arith in rw none at w

-- the numbers that it goes over are those from `from` on
tail-sixteens : (xs : List Float) (from p m : ℕ) (s : Float) → sum_from (sixteen (vec (drop from xs)) p) 0 m s ≡ sum_from (sixteen (vec xs) (from + p)) 0 m s
unfolding vec
tail-sixteens xs from p m s =
    sixteen-same (vec (drop from xs)) (vec xs) p (from + p) m s (λ u h. get_or-drop from xs (p + u) nan ∙ ap (λ (i : ℕ). get_or xs i nan) (omega arith))

-- ys are the numbers that it goes over
pub long-end : (xs ys : List Float) (s t a b : Float) → 16 ≤ length xs → a ≡ every_second (vec xs) 0 → b ≡ every_second (vec xs) 1
    → ys ≡ take (length xs - (length xs - (length xs - 1) / 16 * 16)) (drop (length xs - (length xs - 1) / 16 * 16) xs)
    → s ≡ sum_from (sixteen (vec ys) 0) 0 (length ys / 16) a → t ≡ sum_from (sixteen (vec ys) 1) 0 (length ys / 16) b → s ⊕ t ≡ long_sum (vec xs) (length xs)
unfolding long_sum
long-end xs ys s t a b h ea eb over es et =
    let m : ℕ = (length xs - 1) / 16 in
    let from : ℕ = length xs - m * 16 in
    let all : ys ≡ drop from xs = over ∙ take_all (length xs - from) (drop from xs) (omega (arith, length-drop from xs)) in
    let count : length ys / 16 ≡ m = omega (arith, ap length all, length-drop from xs) in
    let sums : (p : ℕ) (x : Float) → sum_from (sixteen (vec ys) p) 0 (length ys / 16) x ≡ sum_from (sixteen (vec xs) (from + p)) 0 m x =
    λ p x. rw count (ap (λ (z : List Float). sum_from (sixteen (vec z) p) 0 m x) all ∙ tail-sixteens xs from p m x) in
    let even : s ≡ sum_from (sixteen (vec xs) from) 0 m (every_second (vec xs) 0) =
    es ∙ sums 0 a ∙ ap (λ (i : ℕ). sum_from (sixteen (vec xs) i) 0 m a) (omega arith) ∙ ap (λ (x : Float). sum_from (sixteen (vec xs) from) 0 m x) ea in
    let odd : t ≡ sum_from (sixteen (vec xs) (from + 1)) 0 m (every_second (vec xs) 1) =
    et ∙ sums 1 b ∙ ap (λ (x : Float). sum_from (sixteen (vec xs) (from + 1)) 0 m x) eb in
    rw (even, odd)

-- a term from place p on
sixteen-term : (f : Row) (p m : ℕ) (s : Float) (k : ℕ) → is_finite (sum_from (sixteen f p) 0 m s) ≡ true → k < 8 * m → is_finite (f (2 * k + p)) ≡ true
unfolding sixteen
sixteen-term f p m s k e h =
    ap (λ (i : ℕ). is_finite (f i)) (omega arith)
    ∙ eight-terms f (16 * (0 + k / 8) + p) (sum-term (sixteen f p) 0 m s (k / 8) e (omega arith)) (k % 8) (omega arith)

-- every number is a term
long-term : (f : Row) (n k : ℕ) → is_finite (long_sum f n) ≡ true → 16 ≤ n → k < n → is_finite (f k) ≡ true
unfolding long_sum
long-term f n k e h l =
    let m : ℕ = (n - 1) / 16 in
    let from : ℕ = n - m * 16 in
    let even : is_finite (sum_from (sixteen f from) 0 m (every_second f 0)) ≡ true = plus-l _ _ e in
    let odd : is_finite (sum_from (sixteen f (from + 1)) 0 m (every_second f 1)) ≡ true = plus-r _ _ e in
    test (ltb k 16)
    (λ t. let first : k < 16 = ltb-true k 16 t in
    test (eqb (k % 2) 0)
    (λ b. let par : k % 2 ≡ 0 = eqb-true (k % 2) 0 b in
    ap (λ (i : ℕ). is_finite (f i)) (omega arith) ∙ eight-terms f 0 (sum-begin (sixteen f from) 0 m _ even) (k / 2) (omega arith))
    (λ b. let par : k % 2 ≡ 0 → ⊥ = eqb-false (k % 2) 0 b in
    ap (λ (i : ℕ). is_finite (f i)) (omega arith) ∙ eight-terms f 1 (sum-begin (sixteen f (from + 1)) 0 m _ odd) (k / 2) (omega arith)))
    (λ t. let later : 16 ≤ k = ltb-false k 16 t in
    test (eqb ((k - from) % 2) 0)
    (λ b. let par : (k - from) % 2 ≡ 0 = eqb-true ((k - from) % 2) 0 b in
    ap (λ (i : ℕ). is_finite (f i)) (omega arith) ∙ sixteen-term f from m _ ((k - from) / 2) even (omega arith))
    (λ b. let par : (k - from) % 2 ≡ 0 → ⊥ = eqb-false ((k - from) % 2) 0 b in
    ap (λ (i : ℕ). is_finite (f i)) (omega arith) ∙ sixteen-term f (from + 1) m _ ((k - from) / 2) odd (omega arith)))

long_same : (f g : Row) (n : ℕ) → ((k : ℕ) → k < n → f k ≡ g k) → 16 ≤ n → long_sum f n ≡ long_sum g n
unfolding long_sum
long_same f g n h l =
    let m : ℕ = (n - 1) / 16 in
    let from : ℕ = n - m * 16 in
    rw (
      eight-same f g 0 0 (λ u r. h (0 + u) (omega arith)),
      eight-same f g 1 1 (λ u r. h (1 + u) (omega arith)),
      sixteen-same f g from from m _ (λ u r. h (from + u) (omega arith)),
      sixteen-same f g (from + 1) (from + 1) m _ (λ u r. h (from + 1 + u) (omega arith)),
    )

-- ---- any sum of a column

pub sum-short : (f : Row) (n : ℕ) (r : Float) → n < 16 → r ≡ sum_from f 0 n zero_f → r ≡ sum_of f n
unfolding sum_of
sum-short f n r h e = rw (lt-ltb n 16 h) e

pub sum-long : (f : Row) (n : ℕ) (r : Float) → 16 ≤ n → r ≡ long_sum f n → r ≡ sum_of f n
unfolding sum_of
sum-long f n r h e = rw (le-ltb n 16 h) e

pub of-term : (f : Row) (n k : ℕ) → is_finite (sum_of f n) ≡ true → k < n → is_finite (f k) ≡ true
unfolding sum_of
of-term f n k e h =
    test (ltb n 16)
    (λ t. ap (λ (i : ℕ). is_finite (f i)) (omega arith) ∙ sum-term f 0 n zero_f k (rw t at e) h)
    (λ t. long-term f n k (rw t at e) (ltb-false n 16 t) h)

of-same : (f g : Row) (n : ℕ) → ((k : ℕ) → k < n → f k ≡ g k) → sum_of f n ≡ sum_of g n
unfolding sum_of
of-same f g n h =
    test (ltb n 16)
    (λ t. rw t (sum_same f g n 0 0 zero_f (λ k l. ap f (omega arith) ∙ h k l ∙ ap g (omega arith))))
    (λ t. rw t (long_same f g n h (ltb-false n 16 t)))

-- what is lent is the column from its diagonal down
pub sum-lent : (xs : List Float) (n j s : ℕ) (r : Float) → s ≡ column_start n j → j ≤ n → n + j * n ≤ length xs
    → r ≡ sum_of (vec (mid_of (j + s) (n + s - (j + s)) xs)) (length (mid_of (j + s) (n + s - (j + s)) xs))
    → r ≡ column_sum (view n xs) n j
unfolding column_sum
sum-lent xs n j s r at h l e =
    let part : Row = vec (mid_of (j + s) (n + s - (j + s)) xs) in
    let count : length (mid_of (j + s) (n + s - (j + s)) xs) ≡ n - j = mid-count (j + s) (n + s) xs (omega arith) (omega arith) ∙ omega arith in
    e ∙ ap (sum_of part) count ∙ of-same part (λ i. view n xs (j + i) j) (n - j) (λ k g. column-at n xs j s j n k at (omega arith) g)
