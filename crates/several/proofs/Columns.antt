-- Laws of several columns of a part: the kernel's runs are the first rows of columns. Assumes nothing.
use Prim.Native.Nat.{ℕ, zero, suc, ◌+◌, ◌-◌, ◌<◌, ◌≤◌}
use mathlib.Core.Path.{◌≡◌, refl, ◌∙◌, ap}
use mathlib.Core.List.{List}
use native.Mathlib.Omega.{arith}
use borrow.Author.Tests.{lt-ltb}
use lib.Ieee.{Float}
use Rattle.model.specs.Matrix.{Row, Mat, column_start, view, vec, with_part, with_column}
use Rattle.kernels.specs.Rules.{less_runs}
use Rattle.kernels.proofs.Rules.{all_same}
use Rattle.kernels.proofs.Parts.{part-bounds}
use Rattle.grid.specs.Rules.{less_columns}
use Rattle.grid.proofs.Parts.{row_view, view-part}
use Rattle.several.specs.Several.{runs_by, runs_less, columns_by, less_of, ColumnsPre}

-- ---- runs that are parts of columns

-- the u-th begins where column j + u does
view-runs : (n : ℕ) (f : Row) (j rows : ℕ) (to : ℕ → ℕ) (W N : ℕ → Row) (c : ℕ) → rows ≤ n → ((u : ℕ) → u < c → to u ≡ column_start n (j + u))
    → ((u a : ℕ) → u < c → a < rows → W u (a + to u) ≡ N u a) → row_view n (runs_by f to rows W c) ≡ columns_by (row_view n f) j 0 rows N c
unfolding runs_by columns_by
view-runs n f j rows to W N zero h at same = refl
view-runs n f j rows to W N (suc c) h at same =
    let P : Row = runs_by f to rows W c in
    view-part n P (with_part P (to c) (to c + rows) (W c)) (j + c) (to c) 0 rows (W c) (N c) (at c (omega arith)) h
    (part-bounds _ _ _ _ _ _ (omega arith) (omega arith)) (λ a x y. same c a (omega arith) y)
    ∙ ap (λ (M : Mat). with_column M (j + c) 0 rows (N c))
    (view-runs n f j rows to W N c h (λ u l. at u (omega arith)) (λ u a l y. same u a (omega arith) y))

-- ---- what a run reads, as the columns hold it: the v-th of d from column `col v`

seen : (n : ℕ) (xs : List Float) (a c t : ℕ) → a < n → t ≡ a + column_start n c → vec xs t ≡ view n xs a c
unfolding vec view
seen n xs a c t l e = rw (e, lt-ltb a n l)

-- ---- where the columns begin that are read and those that are written

module _ (n rows j d c len : ℕ) (from to : ℕ → ℕ) (pre : ColumnsPre n rows (d - 1) j (j + (c - 1)) len)
    (ef : (v : ℕ) → v < d → from v ≡ 0 + column_start n (0 + v)) (et : (u : ℕ) → u < c → to u ≡ 0 + column_start n (j + u)) where
  pub columns-of : (xs ys : List Float) (m : ℕ → Row) → vec ys ≡ runs_by (vec xs) to rows (runs_less d (vec xs) from to m) c
      → view n ys ≡ columns_by (view n xs) j 0 rows (less_of d (view n xs) j m) c
  unfolding view vec runs_less less_runs less_of less_columns
  columns-of xs ys m e =
      ap (row_view n) e
      ∙ view-runs n (vec xs) j rows to _ _ c pre.height (λ u l. omega (arith, et u l))
      (λ u a l g. all_same d _ _ _ _ (m u) (seen n xs a (j + u) (a + to u) (omega (arith, pre.height)) (omega (arith, et u l)))
      (λ v o. seen n xs a (0 + v) (from v + (a + to u - to u)) (omega (arith, pre.height)) (omega (arith, ef v o))))
