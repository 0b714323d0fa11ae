-- Laws of several runs of one slice: what is read of them, and a turn of the kernel, which adds one place to each run. Assumes nothing.
use Prim.Native.Nat.{ℕ, zero, suc, ◌+◌, ◌-◌, ◌<◌, ◌≤◌}
use mathlib.Core.Path.{◌≡◌, refl, sym, ◌∙◌, ap}
use mathlib.Core.List.{List}
use native.Mathlib.Omega.{arith}
use native.Mathlib.Nat.{le_antisymm}
use native.Mathlib.Numerals.{add-one}
use borrow.Author.Tests.{ltb-true, ltb-false, eqb-true, eqb-false, ne_eqb}
use lib.Dec.{ltb, eqb}
use lib.ListN.{length, get_or, set}
use lib.Seq.{get_or-set_same, get_or-set_other}
use lib.Ieee.{Float, nan}
use Rattle.model.specs.Matrix.{Row, vec, naturals, put, with_part}
use Rattle.kernels.specs.Rules.{less_all, less_runs}
use Rattle.kernels.proofs.Laws.{vec-set, with_part-none, with_part-before, with_part-past, with_part-more}
use Rattle.model.proofs.Cases.{test, cmp}
use Rattle.kernels.proofs.Rules.{put-before, all_same}
use Rattle.several.specs.Several.{runs_by, runs_less, RunsPre}

-- ---- numbers read in turn

pub numbers-step : (xs s : List Float) (from : List ℕ) (i v : ℕ) → v < length s → ((w : ℕ) → w < v → vec s w ≡ vec xs (naturals from w + i))
    → (w : ℕ) → w < v + 1 → vec (set s v (get_or xs (get_or from v 0 + i) nan)) w ≡ vec xs (naturals from w + i)
unfolding vec naturals
numbers-step xs s from i v h e w l =
    test (eqb w v)
    (λ p. let q : w ≡ v = eqb-true w v p in rw q (get_or-set_same s v _ nan h))
    (λ p. get_or-set_other s v w _ nan (eqb-false w v p) ∙ e w (omega (arith, eqb-false w v p)))

-- ---- runs that do not overlap: each of c ends before a later one begins

abbrev Apart : (ℕ → ℕ) → ℕ → ℕ → Type 0
Apart to n c = (u v : ℕ) → u < v → v < c → to u + n ≤ to v

-- it is enough that each ends before the next begins
apart : (to : ℕ → ℕ) (n c : ℕ) → ((u : ℕ) → suc u < c → to u + n ≤ to (suc u)) → Apart to n c
apart to n c h u zero l m = omega arith
apart to n c h u (suc v) l m =
    test (ltb u v)
    (λ b. omega (arith, apart to n c h u v (ltb-true u v b) (omega arith), h v m))
    (λ b. let e : u ≡ v = omega (arith, ltb-false u v b) in rw e (h v m))

-- ---- places that are not written

-- before all runs
runs-before : (f : Row) (to : ℕ → ℕ) (i : ℕ) (R : ℕ → Row) (c t : ℕ) → ((u : ℕ) → u < c → t < to u) → runs_by f to i R c t ≡ f t
unfolding runs_by
runs-before f to i R zero t h = refl
runs-before f to i R (suc c) t h = with_part-before _ (to c) (to c + i) (R c) t (h c (omega arith)) ∙ runs-before f to i R c t (λ u l. h u (omega arith))

-- right after a run
runs-next : (f : Row) (to : ℕ → ℕ) (n i : ℕ) (R : ℕ → Row) (d c u : ℕ) → Apart to n d → i < n → c ≤ d → u < d → runs_by f to i R c (to u + i) ≡ f (to u + i)
unfolding runs_by
runs-next f to n i R d zero u h l g o = refl
runs-next f to n i R d (suc c) u h l g o =
    cmp u c
    (λ b. with_part-before _ (to c) (to c + i) (R c) (to u + i) (omega (arith, h u c b g)))
    (λ b. with_part-past _ (to c) (to c + i) (R c) (to u + i) (rw b (omega arith)))
    (λ b. with_part-past _ (to c) (to c + i) (R c) (to u + i) (omega (arith, h c u b o)))
    ∙ runs-next f to n i R d c u h l (omega arith) o

-- ---- one place more in each run

-- the place i of each of c runs, the u-th by Y u
unfoldable pub puts_by : Row → (ℕ → ℕ) → ℕ → (ℕ → Float) → ℕ → Row
puts_by f to i Y zero = f
puts_by f to i Y (suc c) = put (puts_by f to i Y c) (to c + i) (Y c)

puts-before : (f N : Row) (to : ℕ → ℕ) (i : ℕ) (Y : ℕ → Float) (c u v : ℕ) → ((w : ℕ) → w < c → to w + i < u)
    → puts_by (with_part f u v N) to i Y c ≡ with_part (puts_by f to i Y c) u v N
unfolding puts_by
puts-before f N to i Y zero u v h = refl
puts-before f N to i Y (suc c) u v h =
    ap (λ (g : Row). put g (to c + i) (Y c)) (puts-before f N to i Y c u v (λ w l. h w (omega arith)))
    ∙ put-before (puts_by f to i Y c) (to c + i) (Y c) u v N (h c (omega arith))

-- a place past all that are put
puts-past : (f : Row) (to : ℕ → ℕ) (i : ℕ) (Y : ℕ → Float) (c t : ℕ) → ((w : ℕ) → w < c → to w + i < t) → puts_by f to i Y c t ≡ f t
unfolding puts_by put
puts-past f to i Y zero t h = refl
puts-past f to i Y (suc c) t h = rw (ne_eqb t (to c + i) (λ e. omega (arith, h c (omega arith)))) (puts-past f to i Y c t (λ w l. h w (omega arith)))

runs-more : (f : Row) (to : ℕ → ℕ) (n i : ℕ) (R : ℕ → Row) (d c : ℕ) → Apart to n d → i < n → c ≤ d
    → puts_by (runs_by f to i R c) to i (λ u. R u (to u + i)) c ≡ runs_by f to (i + 1) R c
unfolding runs_by puts_by
runs-more f to n i R d zero h l g = refl
runs-more f to n i R d (suc c) h l g =
    let Y : ℕ → Float = λ u. R u (to u + i) in
    ap (λ (g : Row). put g (to c + i) (R c (to c + i)))
    (puts-before (runs_by f to i R c) (R c) to i Y c (to c) (to c + i) (λ w o. omega (arith, h w c o g))
    ∙ ap (λ (g : Row). with_part g (to c) (to c + i) (R c)) (runs-more f to n i R d c h l (omega arith)))
    ∙ with_part-more (runs_by f to (i + 1) R c) (to c) (to c + i) (R c) (omega arith)
    ∙ ap (λ (e : ℕ). with_part (runs_by f to (i + 1) R c) (to c) e (R c)) (omega arith)

pub runs_none : (f : Row) (to : ℕ → ℕ) (R : ℕ → Row) (c : ℕ) → f ≡ runs_by f to 0 R c
unfolding runs_by
runs_none f to R zero = refl
runs_none f to R (suc c) =
    runs_none f to R c
    ∙ sym (ap (λ (e : ℕ). with_part (runs_by f to 0 R c) (to c) e (R c)) (omega arith) ∙ with_part-none (runs_by f to 0 R c) (to c) (R c))

-- ---- a turn: d numbers are read at its beginning, and c are stored, each less its multiples of those

module _ (f : Row) (from to : ℕ → ℕ) (m : ℕ → Row) (d c : ℕ) where
  -- e places of each run are done
  abbrev pub done : ℕ → Row
  done e = runs_by f to e (runs_less d f from to m) c

  -- and v numbers at place e are stored
  abbrev pub stored : ℕ → ℕ → Row
  stored e v = puts_by (done e) to e (λ u. runs_less d f from to m u (to u + e)) v

module _ (f : Row) (from to : ℕ → ℕ) (m : ℕ → Row) (d c i n len : ℕ) (l : i < n) (pre : RunsPre d c n len from to) where
  disjoint : Apart to n c
  disjoint = apart to n c pre.apart

  pub store-next : (v p : ℕ) (xs zs : List Float) (s : Row) → v < c → p ≡ to v + i → length zs ≡ len → vec xs ≡ done f from to m d c i
      → ((u : ℕ) → u < d → s u ≡ vec xs (from u + i)) → vec zs ≡ stored f from to m d c i v
      → vec (set zs p (less_all d (get_or zs p nan) s (m v))) ≡ stored f from to m d c i (v + 1)
  unfolding puts_by runs_less less_runs vec
  store-next v p xs zs s o at long e reads w =
      let own : get_or zs (to v + i) nan ≡ f (to v + i) =
      ap (λ (r : Row). r (to v + i)) w ∙ puts-past _ to i _ v (to v + i) (λ u g. omega (arith, disjoint u v g o))
      ∙ runs-next f to n i _ c c v disjoint l (omega arith) o in
      let source : (u : ℕ) → u < d → s u ≡ f (from u + (to v + i - to v)) =
      λ u g. reads u g ∙ ap (λ (r : Row). r (from u + i)) e ∙ runs-before f to i _ c (from u + i) (λ w h. omega (arith, pre.read u w g h))
      ∙ ap f (omega arith) in
      rw (at, add-one v) (vec-set zs (to v + i) _ (omega (arith, pre.out v o))
      ∙ ap (λ (r : Row). put r (to v + i) (less_all d (get_or zs (to v + i) nan) s (m v))) w
      ∙ ap (put (stored f from to m d c i v) (to v + i)) (all_same d _ _ _ _ (m v) own source))

  pub store-all : (v : ℕ) (x : Row) → v ≤ c → c ≤ v → x ≡ stored f from to m d c i v → x ≡ done f from to m d c (i + 1)
  store-all v x h g e =
      e ∙ ap (stored f from to m d c i) (le_antisymm h g) ∙ runs-more f to n i (runs_less d f from to m) c c disjoint l (omega arith)
