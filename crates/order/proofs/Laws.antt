-- Laws of the rows that an order has named, of a vector taken in an order, and of one put back. Assumes nothing.
use Prim.Native.Nat.{ℕ, suc, ◌+◌, ◌-◌, ◌<◌, ◌≤◌}
use mathlib.Core.Path.{◌≡◌, refl, sym, ◌∙◌, ap, fun_ext}
use mathlib.Core.Bool.{Bool, true, false, cond, not, ◌&&◌, ◌||◌}
use mathlib.Core.List.{List}
use native.Mathlib.Omega.{arith}
use native.Mathlib.Numerals.{add-one}
use borrow.Author.Tests.{eqb-true, eqb-false, ltb-true, not-false}
use lib.Dec.{ltb, eqb}
use lib.ListN.{length, get_or, set, replicate}
use lib.Seq.{get_or-set_same, get_or-set_other}
use lib.Ieee.{Float, nan}
use Rattle.model.specs.Matrix.{Row, vec, naturals, put, with_part}
use Rattle.model.specs.Solve.{named, order_sound, ordered, returned_from}
use Rattle.model.proofs.Stores.{naturals-zeros}
use Rattle.model.proofs.Cases.{test, and_left}
use Rattle.kernels.proofs.Laws.{vec-set}
use Rattle.kernels.proofs.Rules.{store}
use Rattle.order.specs.Order.{OrderPre}

-- ---- rows seen

-- 1 where one of the first k positions names the row, else 0
unfoldable pub seen_of : (ℕ → ℕ) → ℕ → ℕ → ℕ
seen_of order k = λ r. cond (named order k r) 1 0

pub seen_none : (order : ℕ → ℕ) (n : ℕ) → naturals (replicate n 0) ≡ seen_of order 0
unfolding seen_of named
seen_none order n = naturals-zeros n

-- the row of position k is marked
pub seen_step : (os xs : List ℕ) (k m : ℕ) → get_or os k 0 < m → length xs ≡ m → naturals xs ≡ seen_of (naturals os) k
    → naturals (set xs (get_or os k 0) 1) ≡ seen_of (naturals os) (k + 1)
unfolding naturals seen_of named
seen_step os xs k m h o s =
    let row = get_or os k 0 in
    rw (add-one k) (fun_ext λ r. test (eqb row r)
    (λ t. ap (λ (i : ℕ). get_or (set xs row 1) i 0) (sym (eqb-true row r t)) ∙ get_or-set_same xs row 1 0 (omega arith)
    ∙ rw t (sym (one (named (naturals os) k r))))
    (λ t. get_or-set_other xs row r 1 0 (λ q. eqb-false row r t (sym q)) ∙ ap (λ (f : ℕ → ℕ). f r) s ∙ rw t (same (named (naturals os) k r))))
  where
    one : (b : Bool) → ◌≡◌ {A = ℕ} (cond (b || true) 1 0) 1
    one true = refl
    one false = refl

    same : (b : Bool) → ◌≡◌ {A = ℕ} (cond b 1 0) (cond (b || false) 1 0)
    same true = refl
    same false = refl

-- the test of a row by what was seen is the definition's
pub row-is-sound : (os xs : List ℕ) (n k : ℕ) (b : Bool) → naturals xs ≡ seen_of (naturals os) k
    → b ≡ ltb (get_or os k 0) n && not (eqb (naturals xs (get_or os k 0)) 1) → b ≡ order_sound (naturals os) n k
unfolding order_sound naturals seen_of
row-is-sound os xs n k b s h =
    let row = get_or os k 0 in
    h ∙ ap (λ (c : ℕ). ltb row n && not (eqb c 1)) (ap (λ (f : ℕ → ℕ). f row) s) ∙ ap (λ (c : Bool). ltb row n && not c) (byte (named (naturals os) k row))
  where
    byte : (c : Bool) → eqb (cond c 1 0) 1 ≡ c
    byte true = refl
    byte false = refl

-- a row that is sound is there
pub row_in : (xs : List ℕ) (row n m : ℕ) (b : Bool) → b ≡ ltb row n && not (eqb (naturals xs row) 1) → not b ≡ false → n ≤ m → row < m
row_in xs row n m b e h l = omega (arith, ltb-true row n (and_left (ltb row n) _ (sym e ∙ not-false b h)))

-- ---- in the order, and back

pub row-there : (order : List ℕ) (k len n : ℕ) → OrderPre order len n → k < length order → get_or order k 0 < len
unfolding naturals
row-there order k len n w h = w.rows k (omega (arith, w.count))

pub take_step : (f : Row) (order : List ℕ) (ys vs : List Float) (i n : ℕ) → i < n → length ys ≡ n → vec ys ≡ with_part f 0 i (ordered (naturals order) (vec vs))
    → vec (set ys i (get_or vs (get_or order i 0) nan)) ≡ with_part f 0 (i + 1) (ordered (naturals order) (vec vs))
unfolding ordered naturals vec
take_step f order ys vs i n l r e = store f ys i n n _ _ l (omega arith) r e refl

pub back_end : (order : List ℕ) (x : Row) (k n len : ℕ) (b w : Row) → OrderPre order len n → length order ≤ k
    → returned_from (naturals order) x (n - k) k b ≡ w → b ≡ w
unfolding returned_from
back_end order x k n len b w o h g = let m : n - k ≡ 0 = omega (arith, o.count) in rw m at g

pub back_step : (order : List ℕ) (ys bs : List Float) (k n len : ℕ) (w : Row) → OrderPre order len n → length bs ≡ len → k < length order
    → returned_from (naturals order) (vec ys) (n - k) k (vec bs) ≡ w
    → returned_from (naturals order) (vec ys) (n - (k + 1)) (k + 1) (vec (set bs (get_or order k 0) (get_or ys k nan))) ≡ w
unfolding returned_from naturals vec
back_step order ys bs k n len w o e l g =
    let m : n - k ≡ suc (n - (k + 1)) = omega (arith, o.count) in
    let h : get_or order k 0 < length bs = omega (arith, row-there order k len n o l) in
    rw (vec-set bs (get_or order k 0) (get_or ys k nan) h) (value (rw m at g))
  where
    value : returned_from (naturals order) (vec ys) (n - (k + 1)) (k + 1) (put (vec bs) (naturals order k) (vec ys k)) ≡ w
        → returned_from (naturals order) (vec ys) (n - (k + 1)) (k + 1) (put (vec bs) (get_or order k 0) (get_or ys k nan)) ≡ w
    value z = z
