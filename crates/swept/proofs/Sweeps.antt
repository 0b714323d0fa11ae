-- The sweeps over columns by the multipliers that are kept: where the columns and the multipliers stand, and one column more. Assumes nothing.
use Prim.Native.Nat.{ℕ, ◌+◌, ◌-◌, ◌*◌, ◌<◌, ◌≤◌}
use mathlib.Core.Path.{◌≡◌, refl, ◌∙◌, ap, fun_ext}
use mathlib.Core.Bool.{Bool, false}
use native.Mathlib.Omega.{arith}
use native.Mathlib.Nat.{mul-le-mul_right, le_antisymm}
use borrow.Author.Tests.{lt-ltb, le-ltb, le-leb, lt-leb, eq-eqb, ne_eqb, leb-true}
use lib.Dec.{eqb, leb}
use lib.Ieee.{Float}
use Rattle.model.specs.Matrix.{Mat, within, with_column, exchanged_place}
use Rattle.model.specs.Head.{last_of}
use Rattle.model.proofs.Cases.{test, cmp, no}
use Rattle.model.proofs.Recorded.{last-from}
use Rattle.grid.specs.Grid.{In}
use Rattle.grid.specs.Rules.{column_of, RowsPre, ExchangePre}
use Rattle.less.specs.Less.{less_at, stepped, stepped_twice}
use Rattle.less.proofs.Column.{less-same}
use Rattle.swept.specs.Swept.{strip, swept_first, swept_both, PartPre, PairPre}
use Rattle.swept.specs.declared.Part.{Part}
use Rattle.swept.specs.declared.Pair.{Pair}

-- ---- the exchange of places

pub place_other : (f kq j : ℕ) → (j ≡ f → ⊥) → (j ≡ kq → ⊥) → j ≡ exchanged_place f kq j
place_other f kq j h g = rw (ne_eqb j f h, ne_eqb j kq g)

-- of places from lo on, it is one of them
pub place-from : (lo f kq j : ℕ) → lo ≤ f → lo ≤ kq → lo ≤ j → lo ≤ exchanged_place f kq j
place-from lo f kq j hf hq hj = test (eqb j f) (λ e. rw e hq) (λ e. rw e (test (eqb j kq) (λ g. rw g hf) (λ g. rw g hj)))

-- ---- what is lent

module _ {at : Part} {len len_m : ℕ} (frame : PartPre at len len_m) where
  -- each column is there, and so is each multiplier
  pub column-in : (j : ℕ) → j < at.columns → at.rows + j * at.nrow ≤ len
  column-in j h = let few : j ≤ at.columns - 1 = omega arith in omega (arith, frame.room, mul-le-mul_right at.nrow few)

  pub multiplier-in : (j c : ℕ) → j < at.columns → c < at.columns → In at.nb j c len_m
  multiplier-in j c h g =
      let few : c ≤ at.columns - 1 = omega arith in
      record { row = omega (arith, frame.width); off = omega (arith, frame.kept, mul-le-mul_right at.nb few) }

  pub exchange-in : (p q len' : ℕ) → p < at.columns → q < at.columns → len' ≡ len → ExchangePre at.nrow p q 0 at.rows len'
  exchange-in p q len' h g e =
      record { one = omega (arith, column-in p h); other = omega (arith, column-in q g); up = omega arith; rows = frame.height }

  pub own_in : (j len' : ℕ) → j < at.columns → len' ≡ len → RowsPre at.nrow j 0 at.rows len'
  own_in j len' h e = record { col = omega (arith, column-in j h); up = omega arith; rows = frame.height }

-- ---- where the two pivots stand

pub record Placed (columns l f kq : ℕ) : Type 0 where
  pub first : 0 < l
  pub second : l ≤ f
  pub last : f < columns
  pub reach : f ≤ kq

module _ {pair : Pair} {len len_m : ℕ} (pre : PairPre pair len len_m) where
  pub placed : Placed pair.at.columns pair.l pair.f pair.kq
  placed =
      record {
        first = omega (arith, pre.next);
        second = omega (arith, pre.last, last-from pair.l pair.block2);
        last = omega (arith, pre.reach, pre.row);
        reach = pre.reach;
      }

  pub second-kept : (j : ℕ) → pair.f < j → j < pair.at.columns → In pair.at.nb j pair.l len_m
  second-kept j h g = let p = placed in multiplier-in pre.frame j pair.l g (omega arith)

  pub second-kept-next : (j : ℕ) → pair.f < j → j < pair.at.columns → In pair.at.nb j (pair.l + 1) len_m
  second-kept-next j h g = let p = placed in multiplier-in pre.frame j (pair.l + 1) g (omega arith)

-- ---- a strip

pub strip-none : (M : Mat) (c lo hi : ℕ) (F : ℕ → ℕ → Float → Float) → M ≡ strip M c c lo hi F
unfolding strip
strip-none M c lo hi F = fun_ext λ a. fun_ext λ b. test (leb c b) (λ p. rw (p, le-ltb b c (leb-true c b p))) (λ p. rw p)

strip-step : (M P Q : Mat) (c j lo hi : ℕ) (F : ℕ → ℕ → Float → Float) → c ≤ j → P ≡ strip M c j lo hi F
    → Q ≡ with_column P j lo hi (λ a. F a j (P a j)) → Q ≡ strip M c (j + 1) lo hi F
unfolding strip with_column
strip-step M P Q c j lo hi F h p q =
    q ∙ rw p (fun_ext λ a. fun_ext λ b.
    cmp b j
    (λ l. rw (ne_eqb b j (λ x. omega arith), lt-ltb b j l, lt-ltb b (j + 1) (omega arith)))
    (λ e. rw (e, eq-eqb j j refl, le-leb c j h, le-ltb j j (omega arith), lt-ltb j (j + 1) (omega arith)))
    (λ g. rw (ne_eqb b j (λ x. omega arith), le-ltb b j (omega arith), le-ltb b (j + 1) (omega arith))))

-- a column before all that are swept
pub strip-before : (M P : Mat) (c j lo hi : ℕ) (F : ℕ → ℕ → Float → Float) (b : ℕ) → b < c → P ≡ strip M c j lo hi F → column_of P b ≡ column_of M b
unfolding strip column_of
strip-before M P c j lo hi F b h e = fun_ext λ a. ap (λ (X : Mat). X a b) e ∙ rw (lt-leb c b h)

-- place by place
module _ (M : Mat) (c e lo hi : ℕ) (F : ℕ → ℕ → Float → Float) (i j : ℕ) where
  pub strip-in : c ≤ j → j < e → lo ≤ i → i < hi → strip M c e lo hi F i j ≡ F i j (M i j)
  unfolding strip
  strip-in h g v w = rw (le-leb c j h, lt-ltb j e g, le-leb lo i v, lt-ltb i hi w)

  pub strip-left : j < c → strip M c e lo hi F i j ≡ M i j
  unfolding strip
  strip-left h = rw (lt-leb c j h)

  pub strip-right : e ≤ j → strip M c e lo hi F i j ≡ M i j
  unfolding strip
  strip-right h = rw (le-ltb j e h, no (leb c j))

  pub strip-out : within lo hi i ≡ false → strip M c e lo hi F i j ≡ M i j
  unfolding strip
  strip-out w = rw (w, no (within c e j))

-- ---- the sweeps

pub first-none : (block : Bool) (M I : Mat) (f kq k c lo hi : ℕ) → M ≡ swept_first block M I f kq k c c lo hi
unfolding swept_first
first-none block M I f kq k c lo hi = strip-none M c lo hi _

-- a turn of the first pivot's sweep; the pivot at k, before c, is as it was
pub first_step : (block : Bool) (M P Q I : Mat) (f kq k c j lo hi : ℕ) → last_of k block < c → c ≤ j → P ≡ swept_first block M I f kq k c j lo hi
    → Q ≡ with_column P j lo hi (stepped block P k j (I (exchanged_place f kq j) k) (I (exchanged_place f kq j) (k + 1)))
    → Q ≡ swept_first block M I f kq k c (j + 1) lo hi
unfolding swept_first stepped column_of
first_step block M P Q I f kq k c j lo hi h g p q =
    let same : (a b : ℕ) → b < c → P a b ≡ M a b = λ a b z. ap (λ (r : ℕ → Float). r a) (strip-before M P c j lo hi _ b z p) in
    strip-step M P Q c j lo hi _ g p
    (q ∙ ap (with_column P j lo hi) (fun_ext λ a. less-same block (P a) (M a) k _ _ _ (λ b y z. same a b (omega arith))))

pub both-none : (block1 block2 : Bool) (M I : Mat) (f kq k l c lo hi : ℕ) → M ≡ swept_both block1 block2 M I f kq k l c c lo hi
unfolding swept_both
both-none block1 block2 M I f kq k l c lo hi = strip-none M c lo hi _

-- a turn of the columns after both
pub both-step : (block1 block2 : Bool) (M P Q I : Mat) (f kq k l c j lo hi : ℕ) → last_of k block1 < c → last_of l block2 < c → c ≤ j
    → P ≡ swept_both block1 block2 M I f kq k l c j lo hi
    → Q
    ≡ with_column P j lo hi
    (stepped_twice block1 block2 P k l j (I (exchanged_place f kq j) k) (I (exchanged_place f kq j) (k + 1)) (I j l) (I j (l + 1)))
    → Q ≡ swept_both block1 block2 M I f kq k l c (j + 1) lo hi
unfolding swept_both stepped_twice column_of
both-step block1 block2 M P Q I f kq k l c j lo hi h o g p q =
    let same : (a b : ℕ) → b < c → P a b ≡ M a b = λ a b z. ap (λ (r : ℕ → Float). r a) (strip-before M P c j lo hi _ b z p) in
    strip-step M P Q c j lo hi _ g p
    (q ∙ ap (with_column P j lo hi) (fun_ext λ a. less-same block2 (P a) (M a) l _ _ _ (λ b y z. same a b (omega arith))
    ∙ ap (less_at block2 (M a) l (I j l) (I j (l + 1))) (less-same block1 (P a) (M a) k _ _ _ (λ b y z. same a b (omega arith)))))

pub both_end : (block1 block2 : Bool) (M P I : Mat) (f kq k l c j end lo hi : ℕ) → j ≤ end → end ≤ j → P ≡ swept_both block1 block2 M I f kq k l c j lo hi
    → P ≡ swept_both block1 block2 M I f kq k l c end lo hi
both_end block1 block2 M P I f kq k l c j end lo hi h g p = p ∙ ap (λ (z : ℕ). swept_both block1 block2 M I f kq k l c z lo hi) (le_antisymm h g)
