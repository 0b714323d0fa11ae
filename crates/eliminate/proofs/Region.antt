-- The sweeps over columns: one law for both, that a turn is one column more. Assumes nothing.
use Prim.Native.Nat.{ℕ, ◌+◌, ◌-◌, ◌<◌, ◌≤◌, max}
use mathlib.Core.Path.{◌≡◌, refl, ◌∙◌, ap, fun_ext}
use mathlib.Core.Bool.{◌&&◌, cond}
use mathlib.Core.List.{[], ◌∷◌}
use native.Mathlib.Omega.{arith}
use borrow.Author.Tests.{lt-ltb, le-ltb, le-leb, lt-leb, eq-eqb, ne_eqb, leb-true, leb-false}
use lib.Dec.{leb}
use lib.Ieee.{Float}
use Rattle.model.specs.Matrix.{Row, Mat, vec, within, with_column}
use Rattle.model.proofs.Cases.{test, cmp}
use Rattle.grid.specs.Rules.{column_of, less_columns, less_times_if, less_two}
use Rattle.grid.proofs.Together.{columns-two}
use Rattle.eliminate.specs.Eliminate.{in_panel, region, swept_one, swept_two}
use Rattle.eliminate.proofs.Buffer.{kept_at}

-- ---- a region

pub region-none : (M : Mat) (c lo hi : ℕ) (F : ℕ → ℕ → Float → Float) → M ≡ region M c c lo hi F
unfolding region
region-none M c lo hi F = fun_ext λ a. fun_ext λ b. test (leb c b) (λ p. rw (p, le-ltb b c (leb-true c b p))) (λ p. rw p)

pub region-step : (M P Q : Mat) (c j lo hi top : ℕ) (F : ℕ → ℕ → Float → Float) → c ≤ j → P ≡ region M c j lo hi F → top ≡ max j lo
    → Q ≡ with_column P j top hi (λ a. F a j (P a j)) → Q ≡ region M c (j + 1) lo hi F
unfolding region with_column
region-step M P Q c j lo hi top F h p t q =
    q ∙ rw (p, t) (fun_ext λ a. fun_ext λ b.
    cmp b j
    (λ l. rw (ne_eqb b j (λ x. omega arith), lt-ltb b j l, lt-ltb b (j + 1) (omega arith)))
    (λ e. rw (e, eq-eqb j j refl, le-leb c j h, le-ltb j j (omega arith), lt-ltb j (j + 1) (omega arith))
    (test (leb j a)
    (λ u. test (leb lo a)
    (λ v. rw (u, v, le-leb (max j lo) a (omega (arith, leb-true j a u, leb-true lo a v))))
    (λ v. rw (u, v, lt-leb (max j lo) a (omega (arith, leb-false lo a v)))))
    (λ u. rw (u, lt-leb (max j lo) a (omega (arith, leb-false j a u))))))
    (λ g. rw (ne_eqb b j (λ x. omega arith), le-ltb b j (omega arith), le-ltb b (j + 1) (omega arith))))

-- a row within, up to its own column or to ke: `end` says which
pub region-row : (M : Mat) (c ke lo hi : ℕ) (F : ℕ → ℕ → Float → Float) (a b end : ℕ) → lo ≤ a → a < hi → within c ke b && leb b a ≡ within c end b
    → region M c ke lo hi F a b ≡ cond (within c end b) (F a b (M a b)) (M a b)
unfolding region
region-row M c ke lo hi F a b end h g w = rw (le-leb lo a h, lt-ltb a hi g, ← w) (test (leb b a) (λ z. rw z) (λ z. rw z))

-- a column before all that are swept
pub region-before : (M P : Mat) (c j lo hi : ℕ) (F : ℕ → ℕ → Float → Float) (b : ℕ) → b < c → P ≡ region M c j lo hi F → column_of P b ≡ column_of M b
unfolding region column_of
region-before M P c j lo hi F b h e = fun_ext λ a. ap (λ (X : Mat). X a b) e ∙ rw (lt-leb c b h)

-- ---- after a 1x1

pub sweep-one-none : (M : Mat) (m : Row) (k lo hi : ℕ) → M ≡ swept_one M m k (k + 1) lo hi
unfolding swept_one
sweep-one-none M m k lo hi = region-none M (k + 1) lo hi _

-- the pivot's own column is as it was
pub sweep-one-source : (M P : Mat) (m : Row) (k j lo hi : ℕ) → P ≡ swept_one M m k j lo hi → column_of P k ≡ column_of M k
unfolding swept_one
sweep-one-source M P m k j lo hi e = region-before M P (k + 1) j lo hi _ k (omega arith) e

one-turn : (M P Q B : Mat) (kb ke k j lo hi top : ℕ) (m : Float) → k + 1 ≤ j → j < ke → kb ≤ k
    → P ≡ swept_one M (column_of (in_panel kb ke B) k) k j lo hi → top ≡ max j lo → m ≡ B (j - kb) (k - kb)
    → Q ≡ with_column P j top hi (less_times_if (column_of P j) (column_of M k) m) → Q ≡ swept_one M (column_of (in_panel kb ke B) k) k (j + 1) lo hi
unfolding swept_one column_of less_times_if
one-turn M P Q B kb ke k j lo hi top m h g f p t e q =
    region-step M P Q (k + 1) j lo hi top _ h p t (q ∙ rw (e, kept_at kb ke B j k (omega arith) g f (omega arith)))

pub sweep-one-step : (M P Q B : Mat) (kb ke k j lo hi top : ℕ) (m : Float) → k + 1 ≤ j → j < ke → kb ≤ k
    → P ≡ swept_one M (column_of (in_panel kb ke B) k) k j lo hi → top ≡ max j lo → m ≡ B (j - kb) (k - kb)
    → Q ≡ with_column P j top hi (less_times_if (column_of P j) (column_of P k) m) → Q ≡ swept_one M (column_of (in_panel kb ke B) k) k (j + 1) lo hi
sweep-one-step M P Q B kb ke k j lo hi top m h g f p t e q =
    one-turn M P Q B kb ke k j lo hi top m h g f p t e
    (q ∙ ap (λ (s : Row). with_column P j top hi (less_times_if (column_of P j) s m)) (sweep-one-source M P _ k j lo hi p))

-- ---- after a block

pub sweep-two-none : (M : Mat) (m1 m2 : Row) (k lo hi : ℕ) → M ≡ swept_two M m1 m2 k (k + 2) lo hi
unfolding swept_two
sweep-two-none M m1 m2 k lo hi = region-none M (k + 2) lo hi _

pub sweep-two-source : (M P : Mat) (m1 m2 : Row) (k j lo hi b : ℕ) → b < k + 2 → P ≡ swept_two M m1 m2 k j lo hi → column_of P b ≡ column_of M b
unfolding swept_two
sweep-two-source M P m1 m2 k j lo hi b h e = region-before M P (k + 2) j lo hi _ b h e

two-turn : (M P Q B : Mat) (kb ke k j lo hi top : ℕ) (m1 m2 : Float) → k + 2 ≤ j → j < ke → kb ≤ k
    → P ≡ swept_two M (column_of (in_panel kb ke B) k) (column_of (in_panel kb ke B) (k + 1)) k j lo hi → top ≡ max j lo
    → m1 ≡ B (j - kb) (k - kb) → m2 ≡ B (j - kb) (k + 1 - kb)
    → Q ≡ with_column P j top hi (less_two (column_of P j) (column_of M k) (column_of M (k + 1)) m1 m2)
    → Q ≡ swept_two M (column_of (in_panel kb ke B) k) (column_of (in_panel kb ke B) (k + 1)) k (j + 1) lo hi
unfolding swept_two column_of less_two
two-turn M P Q B kb ke k j lo hi top m1 m2 h g f p o e1 e2 q =
    region-step M P Q (k + 2) j lo hi top _ h p o
    (q ∙ rw (e1, e2, kept_at kb ke B j k (omega arith) g f (omega arith), kept_at kb ke B j (k + 1) (omega arith) g (omega arith) (omega arith)))

pub sweep-two-step : (M P Q B : Mat) (kb ke k j lo hi top : ℕ) (m1 m2 : Float) → k + 2 ≤ j → j < ke → kb ≤ k
    → P ≡ swept_two M (column_of (in_panel kb ke B) k) (column_of (in_panel kb ke B) (k + 1)) k j lo hi → top ≡ max j lo
    → m1 ≡ B (j - kb) (k - kb) → m2 ≡ B (j - kb) (k + 1 - kb)
    → Q ≡ with_column P j top hi (less_columns 2 P k j (vec (m1 ∷ m2 ∷ [])))
    → Q ≡ swept_two M (column_of (in_panel kb ke B) k) (column_of (in_panel kb ke B) (k + 1)) k (j + 1) lo hi
unfolding vec
sweep-two-step M P Q B kb ke k j lo hi top m1 m2 h g f p o e1 e2 q =
    two-turn M P Q B kb ke k j lo hi top m1 m2 h g f p o e1 e2
    (q ∙ ap (λ (N : Row). with_column P j top hi N) (columns-two P k j (vec (m1 ∷ m2 ∷ [])))
    ∙ ap (λ (s : Row). with_column P j top hi (less_two (column_of P j) s (column_of P (k + 1)) m1 m2)) (sweep-two-source M P _ _ k j lo hi k (omega arith) p)
    ∙ ap (λ (t : Row). with_column P j top hi (less_two (column_of P j) (column_of M k) t m1 m2)) (sweep-two-source M P _ _ k j lo hi (k + 1) (omega arith) p))
