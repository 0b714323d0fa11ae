-- Laws of the greatest square: one place more, the end, and the two scans that the choice of a pivot makes. Assumes nothing.
use Prim.Native.Nat.{ℕ, zero, suc, max, min, ◌+◌, ◌-◌, ◌<◌, ◌≤◌}
use mathlib.Core.Path.{◌≡◌, refl, sym, ◌∙◌, ap, subst}
use mathlib.Core.Logic.{inl, inr}
use mathlib.Core.List.{List}
use native.Mathlib.Nat.{max-eq_left, max-eq_right, min-eq_left, min-eq_right}
use native.Mathlib.Omega.{arith}
use borrow.Author.Tests.{lt-ltb, le-ltb, ltb-true, ltb-false}
use lib.Dec.{ltb}
use lib.ListN.{get_or}
use lib.Ieee.{Float, nan, lt}
use Rattle.model.specs.Scalar.{square_of}
use Rattle.model.specs.Matrix.{Row, Mat, column_start, view}
use Rattle.model.specs.Choice.{greatest, none_yet, column_greatest, row_greatest}
use Rattle.model.specs.declared.Greatest.{Greatest}
use Rattle.model.proofs.Cases.{test, one_left, none_left}
use Rattle.grid.proofs.Laws.{view-read}
use Rattle.greatest.specs.Greatest.{better, greatest_down, greatest_along, across, FoundIn}

-- ---- the two directions: g is the best before place i, G the whole scan's

greatest-step : (f : Row) (hi i : ℕ) (g : Greatest) → i < hi → greatest f (i + 1) (hi - (i + 1)) (better g (square_of (f i)) i) ≡ greatest f i (hi - i) g
unfolding greatest better
greatest-step f hi i g h = rw (one_left hi i h)

greatest-end : (f : Row) (hi i : ℕ) (g : Greatest) → hi ≤ i → greatest f i (hi - i) g ≡ g
unfolding greatest
greatest-end f hi i g h = rw (none_left hi i h)

pub down_step : (xs : List Float) (n column s hi i : ℕ) (g h G : Greatest) → s ≡ column_start n column → i < hi → hi ≤ n
    → greatest_down (view n xs) column i hi g ≡ G → h ≡ better g (square_of (get_or xs (i + s) nan)) i → greatest_down (view n xs) column (i + 1) hi h ≡ G
unfolding greatest_down
down_step xs n column s hi i g h G at l r p e =
    rw (e, view-read n xs i column s at (omega arith)) (greatest-step (λ k. view n xs k column) hi i g l ∙ p)

pub down-end : (a : Mat) (column hi i : ℕ) (g G : Greatest) → hi ≤ i → greatest_down a column i hi g ≡ G → g ≡ G
unfolding greatest_down
down-end a column hi i g G h p = sym (greatest-end (λ k. a k column) hi i g h) ∙ p

pub along-step : (a : Mat) (row hi i : ℕ) (x : Float) (g h G : Greatest) → i < hi → greatest_along a row i hi g ≡ G → x ≡ a row i
    → h ≡ better g (square_of x) i → greatest_along a row (i + 1) hi h ≡ G
unfolding greatest_along
along-step a row hi i x g h G l p r e = rw (e, r) (greatest-step (a row) hi i g l ∙ p)

pub along-end : (a : Mat) (row hi i : ℕ) (g G : Greatest) → hi ≤ i → greatest_along a row i hi g ≡ G → g ≡ G
unfolding greatest_along
along-end a row hi i g G h p = sym (greatest-end (a row) hi i g h) ∙ p

-- ---- what every square that is looked at keeps, the greatest keeps

better-keeps : (P : Greatest → Type 0) (g : Greatest) (s : Float) (i : ℕ) → P g → P (record { square = s; at = record { 0 = i } }) → P (better g s i)
unfolding better
better-keeps P g s i h l = test (lt g.square s) (λ p. rw p l) (λ p. rw p h)

pub greatest-keeps : (P : Greatest → Type 0) (f : Row) (n lo : ℕ) (g : Greatest) → P g
    → ((i : ℕ) → lo ≤ i → i < lo + n → P (record { square = square_of (f i); at = record { 0 = i } })) → P (greatest f lo n g)
unfolding greatest better
greatest-keeps P f zero lo g h k = h
greatest-keeps P f (suc n) lo g h k =
    greatest-keeps P f n (lo + 1) (better g (square_of (f lo)) lo) (better-keeps P g (square_of (f lo)) lo h (k lo (omega arith) (omega arith)))
    (λ i l u. k i (omega arith) (omega arith))

-- ---- the pivot's column, and the row and column of the row that it names

none_found : (k ke : ℕ) (x : Float) → k < ke → FoundIn k ke (none_yet k) x
none_found k ke x h = record { place = record { low = omega arith; high = h }; of = inl refl }

pub column-is : (a : Mat) (k ke : ℕ) (G : Greatest) → G ≡ greatest_down a k (k + 1) ke (none_yet k) → G ≡ column_greatest a k ke
unfolding greatest_down column_greatest
column-is a k ke G e = e

pub column-found : (a : Mat) (k ke : ℕ) (G : Greatest) → k < ke → G ≡ greatest_down a k (k + 1) ke (none_yet k) → FoundIn k ke G (a G.at.0 k)
unfolding greatest_down
column-found a k ke G h e =
    let P : Greatest → Type 0 = λ g. FoundIn k ke g (a g.at.0 k) in
    subst P (sym e)
    (greatest-keeps P (λ i. a i k) (ke - (k + 1)) (k + 1) (none_yet k) (none_found k ke (a k k) h)
    (λ i l u. record { place = record { low = omega arith; high = omega arith }; of = inr refl }))

pub across-left : (a : Mat) (r i : ℕ) → i < r → a r i ≡ across a r i
unfolding across
across-left a r i h = rw (lt-ltb i r h)

pub across-below : (a : Mat) (r i : ℕ) → r ≤ i → a i r ≡ across a r i
unfolding across
across-below a r i h = rw (le-ltb i r h)

pub across-is : (a : Mat) (r i : ℕ) (x : Float) → x ≡ a (max r i) (min r i) → x ≡ across a r i
across-is a r i x e =
    e ∙ test (ltb i r)
    (λ p. let l : i < r = ltb-true i r p in let h : i ≤ r = omega arith in rw (max-eq_left h, min-eq_right h) (across-left a r i l))
    (λ p. let l : r ≤ i = ltb-false i r p in rw (max-eq_right l, min-eq_left l) (across-below a r i l))

pub row-found : (a : Mat) (k ke r : ℕ) (F G : Greatest) → k ≤ r → r < ke → F ≡ greatest_along a r k r (none_yet k) → G ≡ greatest_down a r (r + 1) ke F
    → FoundIn k ke G (across a r G.at.0)
unfolding greatest_down greatest_along
row-found a k ke r F G h l e p =
    let P : Greatest → Type 0 = λ g. FoundIn k ke g (across a r g.at.0) in
    let left : P F =
    subst P (sym e)
    (greatest-keeps P (a r) (r - k) k (none_yet k) (none_found k ke (across a r k) (omega arith))
    (λ i m u. record { place = record { low = m; high = omega arith }; of = inr (ap square_of (across-left a r i (omega arith))) })) in
    subst P (sym p)
    (greatest-keeps P (λ i. a i r) (ke - (r + 1)) (r + 1) F left
    (λ i m u. record { place = record { low = omega arith; high = omega arith }; of = inr (ap square_of (across-below a r i (omega arith))) }))

pub row_is : (a : Mat) (k ke r : ℕ) (F G : Greatest) → F ≡ greatest_along a r k r (none_yet k) → G ≡ greatest_down a r (r + 1) ke F → G ≡ row_greatest a k ke r
unfolding greatest_down greatest_along row_greatest
row_is a k ke r F G e p = p ∙ rw e
