-- Laws of `tabulate` and `column_major`: what stands where, and which list it is. Assumes nothing.
use mathlib.Core.Path.{◌≡◌, refl, sym, ◌∙◌, ap}
use mathlib.Core.List.{List}
use Prim.Native.Nat.{ℕ, zero, suc, ◌+◌, ◌*◌, ◌/◌, ◌%◌, ◌<◌}
use native.Mathlib.Omega.{arith}
use native.Mathlib.Nat.{mul-le-mul_right, suc-mul, mul_comm, add-mul-div_right, add-mul-mod_self_right, mod-eq_of_lt, div-eq_of_lt, div-add-mod', mod-lt}
use native.Mathlib.Nat.{div-lt_iff_lt-mul}
use borrow.Author.Tests.{lt-ltb}
use lib.ListN.{length, get_or}
use lib.Seq.{ext_get_or}
use lib.Ieee.{Float, nan}
use Rattle.model.specs.Matrix.{Mat, view, tabulate_from, tabulate, column_major}

pub length-tabulate_from : {A : Type 0} (i n : ℕ) (f : ℕ → A) → length (tabulate_from i n f) ≡ n
unfolding tabulate_from
length-tabulate_from i zero f = refl
length-tabulate_from i (suc n) f = ap suc (length-tabulate_from (suc i) n f)

get_or-tabulate_from : {A : Type 0} (i n k : ℕ) (f : ℕ → A) (z : A) → k < n → get_or (tabulate_from i n f) k z ≡ f (i + k)
unfolding tabulate_from
get_or-tabulate_from i zero k f z h = absurd (omega arith)
get_or-tabulate_from i (suc n) zero f z h = ap f (omega arith)
get_or-tabulate_from i (suc n) (suc k) f z h = get_or-tabulate_from (suc i) n k f z (omega arith) ∙ ap f (omega arith)

-- place k holds f k
pub get_d_tabulate : {A : Type 0} (n k : ℕ) (f : ℕ → A) (z : A) → k < n → get_or (tabulate n f) k z ≡ f k
get_d_tabulate n k f z h = get_or-tabulate_from 0 n k f z h ∙ ap f (omega arith)

-- a list of n places that holds f k at each place k
pub is-tabulate : {A : Type 0} (n : ℕ) (f : ℕ → A) (z : A) (xs : List A) → length xs ≡ n → ((k : ℕ) → k < n → get_or xs k z ≡ f k) → xs ≡ tabulate n f
is-tabulate n f z xs l h =
    ext_get_or z xs (tabulate n f) (l ∙ sym (length-tabulate_from 0 n f)) (λ k m. h k (omega arith) ∙ sym (get_d_tabulate n k f z (omega arith)))

-- row i and column j stand within n * c numbers
pub off-lt : (n c i j : ℕ) → i < n → j < c → i + j * n < n * c
off-lt n c i j hi hj = omega (arith, mul-le-mul_right n hj, suc-mul j n, mul_comm n c)

-- row i and column j of the list are the matrix's
pub view-column_major : (nrow ncol : ℕ) (a : Mat) (i j : ℕ) → i < nrow → j < ncol → view nrow (column_major nrow ncol a) i j ≡ a i j
unfolding view
view-column_major nrow ncol a i j hi hj =
    let row : (i + j * nrow) % nrow ≡ i = add-mul-mod_self_right i j nrow ∙ mod-eq_of_lt hi in
    let col : (i + j * nrow) / nrow ≡ j = add-mul-div_right i j (omega arith) ∙ ap (λ (k : ℕ). k + j) (div-eq_of_lt hi) ∙ omega arith in
    rw (lt-ltb i nrow hi) (get_d_tabulate (nrow * ncol) (i + j * nrow) (λ p. a (p % nrow) (p / nrow)) nan (off-lt nrow ncol i j hi hj)
    ∙ ap (λ (p : ℕ). a p ((i + j * nrow) / nrow)) row ∙ ap (λ (q : ℕ). a i q) col)

-- a list whose view is the matrix, place by place
pub is-column_major : (nrow ncol : ℕ) (a : Mat) (xs : List Float) → length xs ≡ nrow * ncol
    → ((i j : ℕ) → i < nrow → j < ncol → view nrow xs i j ≡ a i j) → xs ≡ column_major nrow ncol a
unfolding view
is-column_major nrow ncol a xs l h =
    is-tabulate (nrow * ncol) (λ p. a (p % nrow) (p / nrow)) nan xs l (λ p m.
    let rows : 0 < nrow = some-row nrow ncol p m in
    let r : p % nrow < nrow = mod-lt p rows in
    let c : p / nrow < ncol = (div-lt_iff_lt-mul rows).1 (omega (arith, mul_comm nrow ncol)) in
    let e : p % nrow + p / nrow * nrow ≡ p = omega (arith, div-add-mod' p nrow) in
    ap (λ (q : ℕ). get_or xs q nan) (sym e) ∙ (rw (lt-ltb (p % nrow) nrow r) at (h (p % nrow) (p / nrow) r c)))
  where
    some-row : (n c p : ℕ) → p < n * c → 0 < n
    some-row zero c p m = absurd (omega (arith, mul_comm zero c))
    some-row (suc n) c p m = omega arith
