-- Laws of the parts of the exchange: one pair more, as the loops have it. Assumes nothing.
use Prim.Native.Nat.{ℕ, ◌+◌, ◌*◌, ◌<◌, ◌≤◌}
use mathlib.Core.Path.{◌≡◌, refl, sym, ◌∙◌, ap, subst, fun_ext}
use mathlib.Core.Bool.{false, ◌&&◌}
use mathlib.Core.List.{List}
use native.Mathlib.Omega.{arith}
use borrow.Author.Tests.{lt-ltb, le-ltb, le-leb, lt-leb, eq-eqb, ne_eqb, eqb-true, eqb-false, ltb-true, ltb-false}
use lib.Dec.{ltb, leb, eqb}
use lib.ListN.{length, get_or, set, length-set}
use lib.Ieee.{Float, nan}
use Rattle.std.specs.List.{swap}
use Rattle.std.proofs.lemmas.List.Edits.{swap_is}
use Rattle.model.specs.Matrix.{Mat, column_start, view, put_at}
use Rattle.model.proofs.Cases.{test, no}
use Rattle.grid.specs.Grid.{In}
use Rattle.grid.proofs.Laws.{view-read, view-written}
use Rattle.exchange.specs.Exchange.{cross_exchanged, diagonal_exchanged, rows_exchanged}

-- (i, j) and (k, l) exchanged
pair : Mat → ℕ → ℕ → ℕ → ℕ → Mat
pair M i j k l = put_at (put_at M i j (M k l)) k l (M i j)

-- s and t are where columns j and l begin
view-swapped : (n : ℕ) (xs : List Float) (i j s k l t : ℕ) → s ≡ column_start n j → t ≡ column_start n l → In n i j (length xs) → In n k l (length xs)
    → view n (swap xs (i + s) (k + t)) ≡ pair (view n xs) i j k l
unfolding pair
view-swapped n xs i j s k l t first second h g =
    rw (
      ← swap_is xs (i + s) (k + t) nan (subst (λ (z : ℕ). i + z < length xs) (sym first) h.off) (subst (λ (z : ℕ). k + z < length xs) (sym second) g.off),
      ← view-read n xs i j s first h.row,
      ← view-read n xs k l t second g.row,
    )
    (view-written n (set xs (i + s) _) k l t _ second (record { row = g.row; off = simp length-set g.off })
    ∙ ap (λ (P : Mat). put_at P k l (get_or xs (i + s) nan)) (view-written n xs i j s _ first h))

none : (lo a : ℕ) → leb lo a && ltb a lo ≡ false
none lo a = test (ltb a lo) (λ r. rw (r, lt-leb lo a (ltb-true a lo r))) (λ r. rw (r, no (leb lo a)))

-- a row a is not i: being below i + 1 is being below i
more : (a i : ℕ) → eqb a i ≡ false → ltb a (i + 1) ≡ ltb a i
more a i p =
    test (ltb a i)
    (λ r. let l : a < i = ltb-true a i r in rw r (lt-ltb a (i + 1) (omega arith)))
    (λ r. let l : i ≤ a = ltb-false a i r in rw r (le-ltb a (i + 1) (omega (arith, eqb-false a i p))))

rows_more : (M : Mat) (p q lo i : ℕ) → p < q → lo ≤ i → pair (rows_exchanged M p q lo i) p i q i ≡ rows_exchanged M p q lo (i + 1)
unfolding rows_exchanged pair put_at
rows_more M p q lo i d h =
    fun_ext λ a. fun_ext λ b.
    test (eqb b i)
    (λ e. test (eqb a p)
    (λ f. rw (e, eqb-true b i e, f, eqb-true a p f, ne_eqb p q (λ x. omega arith), le-leb lo i h, le-ltb i i (omega arith), lt-ltb i (i + 1) (omega arith)))
    (λ f. test (eqb a q)
    (λ g. rw (e, f, g, eqb-true b i e, le-leb lo i h, le-ltb i i (omega arith), lt-ltb i (i + 1) (omega arith)))
    (λ g. rw (e, f, g, eqb-true b i e, le-leb lo i h, le-ltb i i (omega arith), lt-ltb i (i + 1) (omega arith)))))
    (λ e. rw (e, no (eqb a q), no (eqb a p), more b i e))

cross_at : (M : Mat) (p q lo i : ℕ) → lo ≤ i → i < q → cross_exchanged M p q lo i i p ≡ M i p
unfolding cross_exchanged
cross_at M p q lo i h u = rw (eq-eqb p p refl, le-leb lo i h, le-ltb i i (omega arith), ne_eqb i q (λ x. omega arith))

cross-at' : (M : Mat) (p q lo i : ℕ) → p < lo → lo ≤ i → cross_exchanged M p q lo i q i ≡ M q i
unfolding cross_exchanged
cross-at' M p q lo i d h = rw (ne_eqb i p (λ x. omega arith), eq-eqb q q refl, le-leb lo i h, le-ltb i i (omega arith))

cross-more : (M : Mat) (p q lo i : ℕ) → p < lo → lo ≤ i → i < q → pair (cross_exchanged M p q lo i) i p q i ≡ cross_exchanged M p q lo (i + 1)
unfolding cross_exchanged pair put_at
cross-more M p q lo i d h u =
    fun_ext λ a. fun_ext λ b.
    test (eqb b p)
    (λ e. test (eqb a i)
    (λ f. rw (e, f, eqb-true a i f, eqb-true b p e)
    (rw (ne_eqb i q (λ x. omega arith), cross-at' M p q lo i d h, le-leb lo i h, lt-ltb i (i + 1) (omega arith))))
    (λ f. rw (e, f, eqb-true b p e) (rw (ne_eqb p i (λ x. omega arith), no (eqb a q), lt-leb lo p d, more a i f))))
    (λ e. test (eqb a q)
    (λ f. test (eqb b i)
    (λ g. rw (e, f, g, eqb-true a q f, eqb-true b i g) (rw (cross_at M p q lo i h u, le-leb lo i h, lt-ltb i (i + 1) (omega arith))))
    (λ g. rw (e, f, g, more b i g) (rw (no (eqb a i)))))
    (λ f. rw (e, f, no (eqb a i))))

diagonal-is : (M : Mat) (p q : ℕ) → p < q → pair M p p q q ≡ diagonal_exchanged M p q
unfolding diagonal_exchanged pair put_at
diagonal-is M p q d =
    fun_ext λ a. fun_ext λ b.
    test (eqb a p)
    (λ e. rw (e, eqb-true a p e, ne_eqb p q (λ x. omega arith)))
    (λ e. rw e)

-- ---- as the loops have it

pub rows_none : (M : Mat) (p q lo : ℕ) → M ≡ rows_exchanged M p q lo lo
unfolding rows_exchanged
rows_none M p q lo = fun_ext λ a. fun_ext λ b. rw (none lo b)

pub cross-none : (M : Mat) (p q lo : ℕ) → M ≡ cross_exchanged M p q lo lo
unfolding cross_exchanged
cross-none M p q lo = fun_ext λ a. fun_ext λ b. rw (none lo a, none lo b, no (eqb b p), no (eqb a q))

-- what every turn has: the rows, the columns, the length
in_both : (n len i j k l : ℕ) (xs : List Float) → i < n → k < n → i + j * n < len → k + l * n < len → length xs ≡ len
    → In n i j (length xs) × In n k l (length xs)
in_both n len i j k l xs a b g h e = (record { row = a; off = omega arith }, record { row = b; off = omega arith })

pub cross-step : (M : Mat) (xs ys : List Float) (n len p q s t i : ℕ) → s ≡ column_start n p → t ≡ column_start n i → p < q → q < n → p + 1 ≤ i → i < q
    → n + p * n ≤ len → n + q * n ≤ len
    → i * n ≤ q * n → length xs ≡ len → view n xs ≡ cross_exchanged M p q (p + 1) i
    → ys ≡ swap xs (i + s) (q + t) → view n ys ≡ cross_exchanged M p q (p + 1) (i + 1)
cross-step M xs ys n len p q s t i first own d b l h rp rq m e v y =
    let r = in_both n len i p q i xs (omega arith) (omega arith) (omega arith) (omega arith) e in
    rw y (view-swapped n xs i p s q i t first own r.0 r.1 ∙ ap (λ (P : Mat). pair P i p q i) v ∙ cross-more M p q (p + 1) i (omega arith) l h)

pub rows_step : (M : Mat) (xs ys : List Float) (n len p q s j : ℕ) → s ≡ column_start n j → p < q → q < n → j < p → n + p * n ≤ len → n + q * n ≤ len
    → j * n ≤ p * n → length xs ≡ len → view n xs ≡ rows_exchanged M p q 0 j
    → ys ≡ swap xs (p + s) (q + s) → view n ys ≡ rows_exchanged M p q 0 (j + 1)
rows_step M xs ys n len p q s j at d b h rp rq m e v y =
    let r = in_both n len p j q j xs (omega arith) (omega arith) (omega arith) (omega arith) e in
    rw y (view-swapped n xs p j s q j s at at r.0 r.1 ∙ ap (λ (P : Mat). pair P p j q j) v ∙ rows_more M p q 0 j d (omega arith))

pub diagonal-step : (xs ys : List Float) (n p q s t : ℕ) → s ≡ column_start n p → t ≡ column_start n q → p < q → q < n → n + p * n ≤ length xs
    → n + q * n ≤ length xs
    → ys ≡ swap xs (p + s) (q + t) → view n ys ≡ diagonal_exchanged (view n xs) p q
diagonal-step xs ys n p q s t first second d b rp rq y =
    let r = in_both n (length xs) p p q q xs (omega arith) (omega arith) (omega arith) (omega arith) refl in
    rw y (view-swapped n xs p p s q q t first second r.0 r.1 ∙ diagonal-is (view n xs) p q d)
