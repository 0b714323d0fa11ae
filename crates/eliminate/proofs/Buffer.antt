-- The multipliers' buffer by the panel's own rows and columns: what stands there, and a column of it that is written. Assumes nothing.
use Prim.Native.Nat.{ℕ, ◌+◌, ◌-◌, ◌<◌, ◌≤◌}
use mathlib.Core.Path.{◌≡◌, sym, ◌∙◌, ap, fun_ext}
use mathlib.Core.Bool.{false, true≢false}
use mathlib.Core.List.{List}
use native.Mathlib.Omega.{arith}
use borrow.Author.Tests.{lt-ltb, le-ltb, le-leb, lt-leb, eq-eqb, ne_eqb, eqb-true, eqb-false, ltb-true, ltb-false}
use borrow.Rule.Slice.PartMut.{mid_of, put_mid}
use lib.Dec.{ltb, leb, eqb}
use lib.ListN.{length}
use lib.Ieee.{Float}
use Rattle.model.specs.Scalar.{◌⊖◌, ◌⊗◌}
use Rattle.model.specs.Matrix.{Row, Mat, column_start, view, vec, within, with_column, with_part}
use Rattle.model.proofs.Cases.{test, no}
use Rattle.grid.specs.Rules.{column_of}
use Rattle.kernels.specs.Rules.{times, combined}
use Rattle.grid.proofs.Parts.{column-at, column-lent}
use Rattle.whole.proofs.Masked.{within_in, within-before, within-past, ranged}
use Rattle.eliminate.specs.Eliminate.{in_panel, KeepPre}

pub kept_at : (kb ke : ℕ) (B : Mat) (j c : ℕ) → kb ≤ j → j < ke → kb ≤ c → c < ke → B (j - kb) (c - kb) ≡ in_panel kb ke B j c
unfolding in_panel
kept_at kb ke B j c h l g m = rw (le-leb kb j h, lt-ltb j ke l, le-leb kb c g, lt-ltb c ke m)

-- rows or columns of the panel are told apart by their distance from kb
off-eqb : (kb a c : ℕ) → kb ≤ a → kb ≤ c → eqb (a - kb) (c - kb) ≡ eqb a c
off-eqb kb a c h l =
    test (eqb a c)
    (λ p. rw p (eq-eqb (a - kb) (c - kb) (ap (λ (x : ℕ). x - kb) (eqb-true a c p))))
    (λ p. rw p (ne_eqb (a - kb) (c - kb) (λ e. eqb-false a c p (omega arith))))

off-within : (kb lo hi a : ℕ) → kb ≤ a → kb ≤ lo → within (lo - kb) (hi - kb) (a - kb) ≡ within lo hi a
off-within kb lo hi a h l =
    test (ltb a lo)
    (λ p. let u : a < lo = ltb-true a lo p in rw (lt-leb lo a u, lt-leb (lo - kb) (a - kb) (omega arith)))
    (λ p. let u : lo ≤ a = ltb-false a lo p in
    test (ltb a hi)
    (λ q. let v : a < hi = ltb-true a hi q in rw (q, le-leb lo a u, le-leb (lo - kb) (a - kb) (omega arith), lt-ltb (a - kb) (hi - kb) (omega arith)))
    (λ q. let v : hi ≤ a = ltb-false a hi q in rw (q, le-ltb (a - kb) (hi - kb) (omega arith), no (leb lo a), no (leb (lo - kb) (a - kb)))))

-- a column of the buffer, written by a rule of the buffer's own rows: the panel's column, by the rule N
kept-column : (kb ke : ℕ) (B : Mat) (c lo : ℕ) (N' N : Row) → kb ≤ c → c < ke → kb ≤ lo → ((a : ℕ) → kb ≤ a → a < ke → N' (a - kb) ≡ N a)
    → in_panel kb ke (with_column B (c - kb) (lo - kb) (ke - kb) N') ≡ with_column (in_panel kb ke B) c lo ke N
unfolding in_panel with_column
kept-column kb ke B c lo N' N f l u same =
    fun_ext λ a. fun_ext λ b.
    ranged kb ke a
    (λ ha la ea. ranged kb ke b
    (λ hb lb eb. rw (ea, eb, off-eqb kb b c hb f, off-within kb lo ke a ha u, same a ha la))
    (λ eb. rw (ea, eb, apart b eb)))
    (λ ea. rw (ea, outside a ea, no (eqb b c)))
  where
    apart : (b : ℕ) → within kb ke b ≡ false → eqb b c ≡ false
    apart b e = ne_eqb b c (λ x. true≢false (sym (within_in kb ke c f l) ∙ ap (λ (z : ℕ). within kb ke z) (sym x) ∙ e))

    outside : (a : ℕ) → within kb ke a ≡ false → within lo ke a ≡ false
    outside a e =
        test (ltb a ke)
        (λ p. let h : a < ke = ltb-true a ke p in
        test (ltb a kb)
        (λ q. within-before lo ke a (omega (arith, ltb-true a kb q)))
        (λ q. absurd (true≢false (sym (within_in kb ke a (ltb-false a kb q) h) ∙ e))))
        (λ p. within-past lo ke a (ltb-false a ke p))

-- a row of the panel by its distance from kb
shift : (lo kb t : ℕ) → kb ≤ lo → lo + t ≡ lo - kb + t + kb
shift lo kb t h = omega arith

-- ---- the functions that lend a column of the buffer, which begins at s, and read columns of a panel of n rows, which begin at u and v

pub keep-one-lent : (nb n : ℕ) (xs ys zs : List Float) (kb ke c lo s u : ℕ) (r : Float) → s ≡ column_start nb (c - kb) → u ≡ column_start n c
    → KeepPre nb kb ke c lo (length xs) → ke ≤ n
    → length ys ≡ length (mid_of (lo - kb + s) (ke - kb + s - (lo - kb + s)) xs)
    → vec ys ≡ with_part (vec (mid_of (lo - kb + s) (ke - kb + s - (lo - kb + s)) xs)) 0 (ke - kb - (lo - kb))
    (times (vec (mid_of (lo + u) (ke + u - (lo + u)) zs)) r)
    → in_panel kb ke (view nb (put_mid (lo - kb + s) (ke - kb + s - (lo - kb + s)) xs ys))
    ≡ with_column (in_panel kb ke (view nb xs)) c lo ke (times (column_of (view n zs) c) r)
unfolding times column_of
keep-one-lent nb n xs ys zs kb ke c lo s u r kept source pre h ly e =
    let above = pre.above in
    ap (λ (B : Mat). in_panel kb ke B)
    (column-lent nb xs ys (c - kb) s (lo - kb) (ke - kb) _ _ (λ a. view n zs (a + kb) c ⊗ r) kept (omega (arith, pre.col, pre.width)) (omega (arith, pre.up)) (omega (arith, pre.width)) ly e
    (λ t l. rw (column-at n zs c u lo ke t source h (omega arith), shift lo kb t above)))
    ∙ kept-column kb ke (view nb xs) c lo _ _ pre.from pre.here above (λ a g m. ap (λ (x : ℕ). view n zs x c ⊗ r) (omega arith))

pub keep-two-lent : (nb n : ℕ) (xs ys zs : List Float) (kb ke c t lo s u v : ℕ) (p q r : Float) → s ≡ column_start nb (c - kb) → u ≡ column_start n c
    → v ≡ column_start n t → KeepPre nb kb ke c lo (length xs) → ke ≤ n
    → length ys ≡ length (mid_of (lo - kb + s) (ke - kb + s - (lo - kb + s)) xs)
    → vec ys ≡ with_part (vec (mid_of (lo - kb + s) (ke - kb + s - (lo - kb + s)) xs)) 0 (ke - kb - (lo - kb))
    (combined (vec (mid_of (lo + u) (ke + u - (lo + u)) zs)) (vec (mid_of (lo + v) (ke + v - (lo + v)) zs)) p q r)
    → in_panel kb ke (view nb (put_mid (lo - kb + s) (ke - kb + s - (lo - kb + s)) xs ys))
    ≡ with_column (in_panel kb ke (view nb xs)) c lo ke (combined (column_of (view n zs) c) (column_of (view n zs) t) p q r)
unfolding combined column_of
keep-two-lent nb n xs ys zs kb ke c t lo s u v p q r kept source other pre h ly e =
    let above = pre.above in
    ap (λ (B : Mat). in_panel kb ke B)
    (column-lent nb xs ys (c - kb) s (lo - kb) (ke - kb) _ _ (λ a. (p ⊗ view n zs (a + kb) c ⊖ q ⊗ view n zs (a + kb) t) ⊗ r) kept (omega (arith, pre.col, pre.width))
    (omega (arith, pre.up)) (omega (arith, pre.width)) ly e
    (λ i l. rw (column-at n zs c u lo ke i source h (omega arith), column-at n zs t v lo ke i other h (omega arith), shift lo kb i above)))
    ∙ kept-column kb ke (view nb xs) c lo _ _ pre.from pre.here above
    (λ a g m. ap (λ (x : ℕ). (p ⊗ view n zs x c ⊖ q ⊗ view n zs x t) ⊗ r) (omega arith))
