-- Laws of a panel's offsets and of `view` and `put_at`. Assumes nothing.
use Prim.Native.Nat.{ℕ, zero, ◌+◌, ◌*◌, ◌<◌, ◌≤◌, ◌/◌, ◌%◌, ◌^◌}
use mathlib.Core.Path.{◌≡◌, refl, sym, ◌∙◌, ap, subst, fun_ext}
use mathlib.Core.Bool.{◌&&◌, cond}
use mathlib.Core.List.{List}
use native.Mathlib.Nat.{mul-le-mul_right, suc-mul, mul_comm, add-mul-div_right, add-mul-mod_self_right, mod-eq_of_lt, div-eq_of_lt}
use native.Mathlib.Omega.{arith}
use borrow.Author.Tests.{lt-ltb, le-ltb, ne_eqb, eqb-true, eqb-false, ltb-true, ltb-false}
use lib.Dec.{ltb, eqb}
use lib.ListN.{length, get_or, set}
use lib.Seq.{get_or-set_same, get_or-set_other}
use lib.Ieee.{Float, nan}
use mir.Syntax.{w64}
use mir.Val.{Fits}
use Rattle.model.specs.Matrix.{Mat, column_start, view, put_at, with_column}
use Rattle.model.proofs.Cases.{test}
use Rattle.model.proofs.Tabulated.{off-lt}
use Rattle.grid.specs.Grid.{In}

-- ---- offsets

pub off-row : (n a b i j : ℕ) → a < n → i < n → a + b * n ≡ i + j * n → a ≡ i
off-row n a b i j ha hi e =
    sym (mod-eq_of_lt ha) ∙ sym (add-mul-mod_self_right a b n) ∙ ap (λ (k : ℕ). k % n) e ∙ add-mul-mod_self_right i j n ∙ mod-eq_of_lt hi

pub off-col : (n a b i j : ℕ) → a < n → i < n → a + b * n ≡ i + j * n → b ≡ j
off-col n a b i j ha hi e =
    let h : zero < n = omega arith in
    let p : (a + b * n) / n ≡ b = add-mul-div_right a b h ∙ ap (λ (k : ℕ). k + b) (div-eq_of_lt ha) ∙ omega arith in
    let q : (i + j * n) / n ≡ j = add-mul-div_right i j h ∙ ap (λ (k : ℕ). k + j) (div-eq_of_lt hi) ∙ omega arith in
    sym p ∙ ap (λ (k : ℕ). k / n) e ∙ q

pub in-panel : (n c i j : ℕ) (len : ℕ) → len ≡ n * c → i < n → j < c → In n i j len
in-panel n c i j len e hi hj = record { row = hi; off = subst (λ (k : ℕ). i + j * n < k) (sym e) (off-lt n c i j hi hj) }

-- the same as the needs of an index i + j * n ask it, for `search (needs, offsets)`: every premise is a fact that the code's place has
pub off-in : (n c i j len : ℕ) → len ≡ n * c → i < n → j < c → i + j * n < len
off-in n c i j len e hi hj = subst (λ (k : ℕ). i + j * n < k) (sym e) (off-lt n c i j hi hj)

pub off-fits : (n c i j len : ℕ) → len ≡ n * c → i < n → j < c → len < 2 ^ 64 → Fits w64 (i + j * n)
off-fits n c i j len e hi hj h = record { fits = omega (arith, off-in n c i j len e hi hj) }

pub col-fits : (n c i j len : ℕ) → len ≡ n * c → i < n → j < c → len < 2 ^ 64 → Fits w64 (j * n)
col-fits n c i j len e hi hj h = record { fits = omega (arith, off-in n c i j len e hi hj) }

pub ruleset offsets = (off-in, off-fits, col-fits, in-panel)

pub col-in : (n c j len : ℕ) → len ≡ n * c → j < c → n + j * n ≤ len
col-in n c j len e hj = omega (arith, mul-le-mul_right n hj, suc-mul j n, mul_comm n c)

-- ---- a list seen as a matrix

pub view-at : (n : ℕ) (xs : List Float) (i j : ℕ) → i < n → view n xs i j ≡ get_or xs (i + j * n) nan
unfolding view
view-at n xs i j h = rw (lt-ltb i n h)

pub view_out : (n : ℕ) (xs : List Float) (i j : ℕ) → n ≤ i → view n xs i j ≡ nan
unfolding view
view_out n xs i j h = rw (le-ltb i n h)

pub view-set : (n : ℕ) (xs : List Float) (i j : ℕ) (v : Float) → In n i j (length xs) → view n (set xs (i + j * n) v) ≡ put_at (view n xs) i j v
unfolding view put_at
view-set n xs i j v h =
    let hi : i < n = h.row in
    fun_ext λ a. fun_ext λ b.
    test (ltb a n)
    (λ p. let ha : a < n = ltb-true a n p in test (eqb a i)
    (λ q. test (eqb b j)
    (λ r. rw (p, q, r, eqb-true a i q, eqb-true b j r) (get_or-set_same xs (i + j * n) v nan h.off))
    (λ r. rw (p, q, r) (get_or-set_other xs (i + j * n) (a + b * n) v nan (λ e. eqb-false b j r (off-col n a b i j ha hi e)))))
    (λ q. rw (p, q) (get_or-set_other xs (i + j * n) (a + b * n) v nan (λ e. eqb-false a i q (off-row n a b i j ha hi e)))))
    (λ p. rw (p, ne_eqb a i (λ e. omega (arith, ltb-false a n p))) refl)

-- the same where a column's beginning s is at hand
pub view-read : (n : ℕ) (xs : List Float) (i j s : ℕ) → s ≡ column_start n j → i < n → get_or xs (i + s) nan ≡ view n xs i j
view-read n xs i j s at h = rw at (sym (view-at n xs i j h))

pub view-written : (n : ℕ) (xs : List Float) (i j s : ℕ) (v : Float) → s ≡ column_start n j → In n i j (length xs)
    → view n (set xs (i + s) v) ≡ put_at (view n xs) i j v
view-written n xs i j s v at h = rw at (view-set n xs i j v h)

-- ---- a part of a column

-- another column
pub with_column-other : (M : Mat) (j lo hi : ℕ) (N : ℕ → Float) (a b : ℕ) → (b ≡ j → ⊥) → with_column M j lo hi N a b ≡ M a b
unfolding with_column
with_column-other M j lo hi N a b h = rw (ne_eqb b j h)

-- ---- a number of the panel made another

put-own : (a : Mat) (i j : ℕ) (f : Float → Float) → put_at a i j (f (a i j)) ≡ (λ p q. cond (eqb p i && eqb q j) (f (a p q)) (a p q))
unfolding put_at
put-own a i j f =
    fun_ext λ p. fun_ext λ q. test (eqb p i)
    (λ e. test (eqb q j) (λ g. rw (e, g, eqb-true p i e, eqb-true q j g)) (λ g. rw (e, g)))
    (λ e. rw e)

-- by f
pub own-set : (n : ℕ) (xs : List Float) (i j : ℕ) (f : Float → Float) → In n i j (length xs)
    → view n (set xs (i + j * n) (f (get_or xs (i + j * n) nan))) ≡ (λ p q. cond (eqb p i && eqb q j) (f (view n xs p q)) (view n xs p q))
own-set n xs i j f h =
    view-set n xs i j (f (get_or xs (i + j * n) nan)) h
    ∙ ap (λ (x : Float). put_at (view n xs) i j (f x)) (sym (view-at n xs i j h.row)) ∙ put-own (view n xs) i j f
