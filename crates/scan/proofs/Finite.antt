-- Laws of numbers that are finite: a mark, a list, a column, the lower positions, a turn of the scan's rows and of its columns. Assumes nothing.
use Prim.Native.Nat.{ℕ, zero, suc, ◌+◌, ◌-◌, ◌*◌, ◌<◌, ◌≤◌}
use mathlib.Core.Path.{◌≡◌, refl, sym, ◌∙◌, ap}
use mathlib.Core.Bool.{Bool, true, false, cond, ◌&&◌}
use mathlib.Core.List.{List}
use native.Mathlib.Nat.{le_antisymm}
use native.Mathlib.Omega.{arith}
use borrow.Rule.Slice.PartMut.{mid_of}
use lib.Dec.{eqb}
use lib.ListN.{length, get_or}
use lib.Ieee.{Float, nan}
use Rattle.std.specs.Prelude.{Ok, Err}
use Rattle.model.specs.Scalar.{is_finite}
use Rattle.model.specs.Matrix.{Row, Mat, column_start, view, vec}
use Rattle.model.specs.Answer.{or_else, Check}
use Rattle.model.specs.Factor.{every_from, column_check, columns_check, mark_of}
use Rattle.model.specs.declared.Refusal.TheVariants.{Input}
use Rattle.model.proofs.Cases.{test, one_left, none_left, and_left, and_right}
use Rattle.model.proofs.Every.{every_of, every-last, every-same, every-at}
use Rattle.kernels.proofs.Parts.{mid-count}
use Rattle.grid.proofs.Parts.{column-at}
use Rattle.total.specs.Finite.{sum_finite, column_finite, lower_finite, KnownFinite}
use Rattle.total.proofs.Finite.{sum-known}
use Rattle.scan.specs.Finite.{marked_by, finite_from, first_row}

-- ---- a mark, the numbers of a list, and of a column

mark-and : (a b : Bool) → cond {A = ℕ} (a && b) 0 1 ≡ cond b (cond a 0 1) 1
mark-and true true = refl
mark-and true false = refl
mark-and false true = refl
mark-and false false = refl

pub mark-more : (r : Row) (c : ℕ) → mark_of (c + 1) r ≡ marked_by (mark_of c r) (r c)
unfolding mark_of marked_by
mark-more r c =
    let f : ℕ → Bool = λ j. is_finite (r j) in
    ap (λ (b : Bool). cond {A = ℕ} b 0 1) (every-last f c 0 ∙ ap (λ (k : ℕ). every_from f c 0 && f k) (omega arith)) ∙ mark-and (every_from f c 0) (f c)

pub all_none : (f : Row) → 0 ≡ mark_of 0 f
unfolding mark_of every_from
all_none f = refl

pub all-step : (xs : List Float) (i m n : ℕ) → m ≡ mark_of i (vec xs) → n ≡ marked_by m (get_or xs i nan) → n ≡ mark_of (i + 1) (vec xs)
unfolding vec
all-step xs i m n e p = p ∙ ap (λ (k : ℕ). marked_by k (get_or xs i nan)) e ∙ sym (mark-more (vec xs) i)

none-marked : (b : Bool) → eqb (cond b 0 1) 0 ≡ b
none-marked true = refl
none-marked false = refl

pub all_end : (f : Row) (i n m : ℕ) → i ≤ n → n ≤ i → m ≡ mark_of i f → eqb m 0 ≡ finite_from f 0 n
unfolding mark_of finite_from
all_end f i n m h l e = rw (e, le_antisymm h l) (none-marked (every_from (λ k. is_finite (f k)) n 0))

pub column-lent : (xs : List Float) (n j s lo hi : ℕ) (b : Bool) → s ≡ column_start n j → lo ≤ hi → hi ≤ n → n + j * n ≤ length xs
    → b ≡ finite_from (vec (mid_of (lo + s) (hi + s - (lo + s)) xs)) 0 (length (mid_of (lo + s) (hi + s - (lo + s)) xs))
    → b ≡ column_finite (view n xs) j lo hi
unfolding finite_from column_finite
column-lent xs n j s lo hi b at u h r e =
    let part : Row = vec (mid_of (lo + s) (hi + s - (lo + s)) xs) in
    let count : length (mid_of (lo + s) (hi + s - (lo + s)) xs) ≡ hi - lo = mid-count (lo + s) (hi + s) xs (omega arith) (omega arith) ∙ omega arith in
    e ∙ ap (λ (k : ℕ). every_from (λ i. is_finite (part i)) k 0) count ∙ every-same (λ k. is_finite (part k)) (λ i. is_finite (view n xs i j)) (hi - lo) 0 lo
    (λ k g. ap is_finite (ap part (omega arith) ∙ column-at n xs j s lo hi k at h g))

-- ---- the lower positions

-- where the lower positions are known to be finite, so is a part of a column below its diagonal
pub known-column : (a : Mat) (b : Bool) (n c j lo hi : ℕ) → KnownFinite b a n c → b ≡ true → j < c → j ≤ lo → hi ≤ n → true ≡ column_finite a j lo hi
unfolding lower_finite column_finite
known-column a b n c j lo hi w e g l h =
    let down : every_from (λ i. is_finite (a i j)) (n - j) j ≡ true =
    ap (λ (k : ℕ). column_finite a k k n) (omega arith) ∙ every-at (λ k. column_finite a k k n) c 0 j (w.all e) g in
    sym (every_of (λ i. is_finite (a i j)) (hi - lo) lo (λ k q.
    ap (λ (i : ℕ). is_finite (a i j)) (omega arith) ∙ every-at (λ i. is_finite (a i j)) (n - j) j (lo + k - j) down (omega arith)))

-- ---- the scan of the panel

-- a column that is finite has nothing to stop at
column-sound : (a : Mat) (j n i : ℕ) → every_from (λ k. is_finite (a k j)) n i ≡ true → column_check a j n i ≡ Ok tt
unfolding every_from column_check
column-sound a j zero i e = refl
column-sound a j (suc n) i e =
    let here : is_finite (a i j) ≡ true = and_left (is_finite (a i j)) _ e in
    rw here (column-sound a j n (i + 1) (and_right (is_finite (a i j)) _ e))

first-row : (a : Mat) (n j r : ℕ) → r ≡ first_row a n j → column_check a j (n - r) r ≡ column_check a j (n - j) j
unfolding first_row column_finite column_check
first-row a n j r e =
    test (column_finite a j j n)
    (λ p. let q : r ≡ n = e ∙ rw p in rw (q, none_left n n (omega arith)) (sym (column-sound a j (n - j) j p)))
    (λ p. let q : r ≡ j = e ∙ rw p in rw q)

pub first-low : (a : Mat) (n c j r : ℕ) → j < c → c ≤ n → r ≡ first_row a n j → j ≤ r
unfolding first_row
first-low a n c j r h l e = rw e (test (column_finite a j j n) (λ p. rw p (omega arith)) (λ p. rw p (omega arith)))

-- columns that are finite have nothing to stop at
columns-sound : (a : Mat) (n k j : ℕ) → every_from (λ i. column_finite a i i n) k j ≡ true → columns_check a n k j ≡ Ok tt
unfolding every_from columns_check column_finite
columns-sound a n zero j e = refl
columns-sound a n (suc k) j e =
    rw (column-sound a j (n - j) j (and_left (column_finite a j j n) _ e)) (columns-sound a n k (j + 1) (and_right (column_finite a j j n) _ e))

pub panel-sound : (a : Mat) (n c : ℕ) (b : Bool) → b ≡ sum_finite a n c → b ≡ true → Ok tt ≡ columns_check a n c 0
unfolding lower_finite
panel-sound a n c b e t = sym (columns-sound a n c 0 ((sum-known a n c b e).all t))

-- the check whole, C, from row i of column j on
abbrev pub from_here : Mat → ℕ → ℕ → ℕ → ℕ → Check
from_here a nrow ncol j i = or_else (column_check a j (nrow - i) i) (columns_check a nrow (ncol - (j + 1)) (j + 1))

module _ (a : Mat) (n c j i : ℕ) (x : Float) (b : Bool) (C : Check) (h : i < n) (r : x ≡ a i j) (e : b ≡ is_finite x) (p : C ≡ from_here a n c j i) where
  at : b ≡ is_finite (a i j)
  at = e ∙ ap is_finite r

  -- a turn of the rows, and the end of them all
  pub row_step : b ≡ true → C ≡ from_here a n c j (i + 1)
  unfolding column_check
  row_step f = let t : is_finite (a i j) ≡ true = sym at ∙ f in p ∙ rw (one_left n i h, t)

  pub row-stop : b ≡ false → Err (Input (record { 0 = j }) (record { 0 = i })) ≡ C
  unfolding column_check
  row-stop f = let t : is_finite (a i j) ≡ false = sym at ∙ f in sym (p ∙ rw (one_left n i h, t))

pub row-none : (a : Mat) (n c j r : ℕ) (C : Check) → j < c → C ≡ columns_check a n (c - j) j → r ≡ first_row a n j → C ≡ from_here a n c j r
unfolding columns_check
row-none a n c j r C h p e = p ∙ rw (one_left c j h, ← first-row a n j r e)

pub row-end : (a : Mat) (n c j i : ℕ) (C : Check) → n ≤ i → C ≡ from_here a n c j i → C ≡ columns_check a n (c - (j + 1)) (j + 1)
unfolding column_check
row-end a n c j i C h p = p ∙ rw (none_left n i h)

pub column-none : (a : Mat) (n c : ℕ) → columns_check a n c 0 ≡ columns_check a n (c - 0) 0
column-none a n c = ap (λ (k : ℕ). columns_check a n k 0) (omega arith)

pub column-end : (a : Mat) (n c j : ℕ) (C : Check) → c ≤ j → C ≡ columns_check a n (c - j) j → Ok tt ≡ C
unfolding columns_check
column-end a n c j C h p = sym (p ∙ rw (none_left c j h))
