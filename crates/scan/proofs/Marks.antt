-- Laws of the marks: one mark more, one column more. Assumes nothing.
use Prim.Native.Nat.{ℕ, ◌+◌, ◌-◌, ◌<◌, ◌≤◌}
use mathlib.Core.Path.{◌≡◌, refl, sym, ◌∙◌, ap}
use mathlib.Core.Bool.{Bool, true, cond}
use mathlib.Core.List.{List}
use native.Mathlib.Omega.{arith}
use borrow.Author.Tests.{lt-ltb, le-ltb, ltb-true, ltb-false, eqb-true, eqb-false}
use borrow.Rule.Slice.PartMut.{mid_of}
use lib.Dec.{ltb, eqb}
use lib.ListN.{length, get_or, set, replicate, length-set, length-replicate, get_or-replicate}
use lib.Seq.{get_or-set_same, get_or-set_other}
use lib.Ieee.{Float, nan}
use Rattle.model.specs.Scalar.{is_finite}
use Rattle.model.specs.Matrix.{Mat, column_start, view, vec, naturals}
use Rattle.model.specs.Factor.{every_from, mark_of}
use Rattle.model.proofs.Cases.{test}
use Rattle.model.proofs.Tabulated.{length-tabulate_from, get_d_tabulate, is-tabulate}
use Rattle.model.proofs.Every.{every_of, every-at}
use Rattle.grid.proofs.Parts.{column-at}
use Rattle.total.specs.Finite.{column_finite, KnownFinite}
use Rattle.scan.specs.Finite.{marked_by}
use Rattle.scan.specs.Marks.{part_marked, marked, tail_marks}
use Rattle.scan.proofs.Finite.{mark-more, known-column}

-- ---- the marks of one column

pub part_none : (ms : List ℕ) (xs : List Float) → ms ≡ part_marked ms xs 0
unfolding part_marked naturals
part_none ms xs = is-tabulate (length ms) _ 0 ms refl (λ k h. rw (le-ltb k 0 (omega arith)))

pub part_step : (ms ns : List ℕ) (xs : List Float) (i n m : ℕ) → i < n → n ≤ length ms → ns ≡ part_marked ms xs i
    → m ≡ marked_by (get_or ns i 0) (get_or xs i nan) → set ns i m ≡ part_marked ms xs (i + 1)
unfolding part_marked naturals vec
part_step ms ns xs i n m l h e w =
    is-tabulate (length ms) _ 0 (set ns i m) (length-set ns i m ∙ len) (λ k g.
    test (eqb k i)
    (λ p. let q : k ≡ i = eqb-true k i p in
    rw (q, lt-ltb i (i + 1) (omega arith))
    (get_or-set_same ns i m 0 (omega (arith, len)) ∙ w ∙ ap (λ (b : ℕ). marked_by b (get_or xs i nan)) (at i (omega arith) ∙ rw (le-ltb i i (omega arith)))))
    (λ p. get_or-set_other ns i k m 0 (eqb-false k i p) ∙ at k g ∙
    test (ltb k i)
    (λ r. rw (r, lt-ltb k (i + 1) (omega (arith, ltb-true k i r))))
    (λ r. rw (r, le-ltb k (i + 1) (omega (arith, ltb-false k i r, eqb-false k i p))))))
  where
    len : length ns ≡ length ms
    len = ap length e ∙ length-tabulate_from 0 (length ms) _

    at : (k : ℕ) → k < length ms → get_or ns k 0 ≡ cond (ltb k i) (marked_by (get_or ms k 0) (get_or xs k nan)) (get_or ms k 0)
    at k g = ap (λ (z : List ℕ). get_or z k 0) e ∙ get_d_tabulate (length ms) k _ 0 g

-- ---- the marks of the tail

pub tail_none : (a : Mat) (n c len : ℕ) (ms : List ℕ) → len ≡ n - c → ms ≡ replicate len 0 → ms ≡ tail_marks a c n 0
unfolding tail_marks mark_of every_from
tail_none a n c len ms l e =
    e ∙ is-tabulate (n - c) _ 0 (replicate len 0) (length-replicate len 0 ∙ l) (λ k h. get_or-replicate len k 0 0 (omega arith))

-- where the lower positions of the panel are known to be finite
pub tail-clean : (a : Mat) (n c len : ℕ) (ms : List ℕ) (b : Bool) → len ≡ n - c → ms ≡ replicate len 0 → KnownFinite b a n c → b ≡ true
    → ms ≡ tail_marks a c n c
unfolding tail_marks mark_of column_finite
tail-clean a n c len ms b l e w t =
    e ∙ is-tabulate (n - c) _ 0 (replicate len 0) (length-replicate len 0 ∙ l) (λ k h.
    let clean : every_from (λ j. is_finite (a (c + k) j)) c 0 ≡ true =
    every_of (λ j. is_finite (a (c + k) j)) c 0 (λ j g.
    every-at (λ i. is_finite (a i (0 + j))) (n - c) c k (sym (known-column a b n c (0 + j) c n w t (omega arith) (omega arith) (omega arith))) h) in
    get_or-replicate len k 0 0 (omega arith) ∙ rw clean)

pub tail_step : (a : Mat) (ms ns : List ℕ) (n c j : ℕ) → ms ≡ tail_marks a c n j → ns ≡ marked ms a c n j → ns ≡ tail_marks a c n (j + 1)
unfolding tail_marks marked naturals
tail_step a ms ns n c j e p =
    is-tabulate (n - c) _ 0 ns (ap length p ∙ length-tabulate_from 0 (n - c) _) (λ k g.
    ap (λ (z : List ℕ). get_or z k 0) p ∙ get_d_tabulate (n - c) k _ 0 g
    ∙ ap (λ (m : ℕ). marked_by m (a (c + k) j)) (ap (λ (z : List ℕ). get_or z k 0) e ∙ get_d_tabulate (n - c) k _ 0 g) ∙ sym (mark-more (a (c + k)) j))

-- a column of the tail, lent
pub tail-lent : (xs : List Float) (ms ns : List ℕ) (n c j s : ℕ) → s ≡ column_start n j → c ≤ n → length ms ≡ n - c
    → ns ≡ part_marked ms (mid_of (c + s) (n + s - (c + s)) xs) (n - c) → ns ≡ marked ms (view n xs) c n j
unfolding marked part_marked vec
tail-lent xs ms ns n c j s at h l p =
    is-tabulate (n - c) _ 0 ns (ap length p ∙ length-tabulate_from 0 (length ms) _ ∙ l) (λ k g.
    ap (λ (z : List ℕ). get_or z k 0) p ∙ get_d_tabulate (length ms) k _ 0 (omega arith)
    ∙ rw (lt-ltb k (n - c) g) (ap (λ (x : Float). marked_by (naturals ms k) x) (column-at n xs j s c n k at (omega arith) g)))

-- a column that is finite marks no row
pub tail-finite : (a : Mat) (ms : List ℕ) (n c j : ℕ) (b : Bool) → length ms ≡ n - c → b ≡ column_finite a j c n → b ≡ true → ms ≡ marked ms a c n j
unfolding marked column_finite marked_by naturals
tail-finite a ms n c j b l e t =
    is-tabulate (n - c) _ 0 ms l (λ k g. rw (every-at (λ i. is_finite (a i j)) (n - c) c k (sym e ∙ t) g))
