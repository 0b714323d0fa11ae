-- What the calls of the tail ask, from what its callers have. Assumes nothing.
use Prim.Native.Nat.{ℕ, ◌+◌, ◌-◌, ◌*◌, ◌<◌, ◌≤◌}
use mathlib.Core.Path.{◌≡◌, refl, sym, ◌∙◌, ap}
use mathlib.Core.Bool.{Bool, true, false}
use native.Mathlib.Omega.{arith}
use native.Mathlib.Nat.{mul-le-mul_right, add-mul, mul_comm, le_trans}
use borrow.Author.Tests.{eqb-true, eq-eqb}
use lib.Dec.{eqb}
use lib.Ieee.{Float}
use Rattle.model.specs.Step.{begins, is_block, diagonal_at, past_of, first_of}
use Rattle.model.specs.Head.{last_of}
use Rattle.model.specs.Kept.{Starts}
use Rattle.model.specs.declared.Diagonal.{Diagonal}
use Rattle.model.proofs.Cases.{test}
use Rattle.model.proofs.Past.{past-above}
use Rattle.grid.specs.Rules.{ExchangePre}
use Rattle.swept.specs.Swept.{PartPre, PairPre}
use Rattle.pairs.specs.Pairs.{pair_of, StepPre}
use Rattle.tail.specs.Tail.{TailPre, StepsPre, HerePre, LentPre, ReadPre}

-- ---- the record of pivots

first-in : (kb ke : ℕ) (blocks partners : ℕ → ℕ) (k : ℕ) → StepsPre kb ke blocks partners → k < ke → first_of blocks partners k < ke
unfolding first_of
first-in kb ke blocks partners k s h =
    test (begins blocks k) (λ t. rw t (s.partner (k + 1) (s.pair k h (eqb-true (blocks k) 1 t)))) (λ t. rw t h)

pub here-pre : (kb ke : ℕ) (blocks partners : ℕ → ℕ) (k : ℕ) → StepsPre kb ke blocks partners → k < ke → Starts blocks k → HerePre ke blocks partners k
here-pre kb ke blocks partners k s h o =
    record { pair = s.pair k h; partner = s.partner k h; first = first-in kb ke blocks partners k s h; ahead = s.recorded.ahead k h o }

pub partner-ahead : (ke : ℕ) (blocks partners : ℕ → ℕ) (k : ℕ) → HerePre ke blocks partners k → k ≤ partners k
partner-ahead ke blocks partners k h = omega (arith, h.ahead.last, past-above blocks k)

-- ---- the exchange before a step

module _ (ke : ℕ) (blocks partners : ℕ → ℕ) (k : ℕ) (t : Bool) (here : HerePre ke blocks partners k) (e : t ≡ begins blocks k) (z : t ≡ true) where
  first-is : first_of blocks partners k ≡ partners (k + 1)
  unfolding first_of
  first-is = rw (sym e ∙ z)

  pub first-ahead : (p : ℕ) → p ≡ partners (k + 1) → k ≤ p
  first-ahead p q = omega (arith, here.ahead.first, first-is)

  pub arrive-pre : (nrow p q len : ℕ) → LentPre nrow ke k len → p ≡ partners (k + 1) → q ≡ p - k → ExchangePre nrow 0 q 0 (nrow - ke) len
  arrive-pre nrow p q len lent s d =
      let few : q ≤ ke - k - 1 = omega (arith, here.first, first-is, first-ahead p s, lent.here) in
      record {
        one = omega (arith, lent.room);
        other = omega (arith, lent.room, mul-le-mul_right nrow few);
        up = omega arith;
        rows = omega arith;
      }

-- whether it is none
pub stays-block : (blocks partners : ℕ → ℕ) (l p : ℕ) (t : Bool) → t ≡ begins blocks l → t ≡ true → p ≡ partners (l + 1)
    → eqb p l ≡ eqb (first_of blocks partners l) l
unfolding first_of
stays-block blocks partners l p t e z q = rw (sym e ∙ z, q)

pub stays-single : (blocks partners : ℕ → ℕ) (l : ℕ) (t : Bool) → t ≡ begins blocks l → t ≡ false → true ≡ eqb (first_of blocks partners l) l
unfolding first_of
stays-single blocks partners l t e z = rw (sym e ∙ z, eq-eqb l l refl)

-- ---- a step

module _ (nb kb ke k len_m ld ls lb lp : ℕ) (read : ReadPre nb kb ke k len_m ld ls lb lp) (here : k < ke) where
  -- the multipliers from there on
  kept-room : (len : ℕ) → len ≡ len_m - (k - kb + (k - kb) * nb) → ke - k + (ke - k - 1) * nb ≤ len
  kept-room len e =
      let few : k - kb + (ke - k - 1) + 1 ≤ nb = omega (arith, read.width, read.from) in
      let m = mul-le-mul_right nb few in
      omega (arith, read.square, read.width, read.from, add-mul (k - kb + (ke - k - 1)) 1 nb, add-mul (k - kb) (ke - k - 1) nb)

  frame-pre : (nrow len len_p : ℕ) → LentPre nrow ke k len → len_p ≡ len_m - (k - kb + (k - kb) * nb)
      → PartPre (record { nrow = nrow; rows = nrow - ke; nb = nb; columns = ke - k }) len len_p
  frame-pre nrow len len_p lent e =
      record { height = omega arith; room = lent.room; width = omega (arith, read.width, read.from); kept = kept-room len_p e }

-- a pivot's kind is its block byte
block-by : (d sub : ℕ → Float) (blocks : ℕ → ℕ) (k : ℕ) (x : Diagonal) → x ≡ diagonal_at d sub blocks k → is_block x ≡ begins blocks k
unfolding diagonal_at
block-by d sub blocks k x e = ap is_block e ∙ test (begins blocks k) (λ t. rw t) (λ t. rw t)

last-past : (blocks : ℕ → ℕ) (k : ℕ) → last_of k (begins blocks k) + 1 ≡ past_of blocks k
unfolding last_of past_of
last-past blocks k = test (begins blocks k) (λ t. rw t (omega arith)) (λ t. rw t)

last-in : (ke : ℕ) (blocks partners : ℕ → ℕ) (k : ℕ) → HerePre ke blocks partners k → k < ke → past_of blocks k ≤ ke
unfolding past_of
last-in ke blocks partners k here h = test (begins blocks k) (λ t. rw t (omega (arith, here.pair (eqb-true (blocks k) 1 t)))) (λ t. rw t (omega arith))

-- counted from k on: the column after a pivot at k, the last one of a pivot at l, a row
next-from : (k l c : ℕ) (b : Bool) → l ≡ last_of k b + 1 → c ≡ l - k → c ≡ last_of 0 b + 1
unfolding last_of
next-from k l c true e f = omega arith
next-from k l c false e f = omega arith

last-from : (k l c p f : ℕ) (b : Bool) → k ≤ l → p ≡ last_of l b + 1 → c ≡ l - k → f ≡ p - 1 - k → f ≡ last_of c b
unfolding last_of
last-from k l c p f true h e g d = omega arith
last-from k l c p f false h e g d = omega arith

row_from : (k ke r s : ℕ) → k ≤ r → r < ke → s ≡ r - k → s < ke - k
row_from k ke r s h l e = omega arith

reach-from : (k p r f s : ℕ) → p ≤ r + 1 → f ≡ p - 1 - k → s ≡ r - k → f ≤ s
reach-from k p r f s h e g = omega arith

-- a pivot that ends before ke
ends-in : (k l ke c : ℕ) (b : Bool) → l ≡ last_of k b + 1 → l ≤ ke → last_of 0 b < ke - k
unfolding last_of
ends-in k l ke c true e h = omega arith
ends-in k l ke c false e h = omega arith

-- the column after a pivot, by the pivot
past_by : (d sub : ℕ → Float) (blocks : ℕ → ℕ) (k l : ℕ) (x : Diagonal) → x ≡ diagonal_at d sub blocks k → l ≡ past_of blocks k → l ≡ last_of k (is_block x) + 1
past_by d sub blocks k l x e f = f ∙ sym (last-past blocks k) ∙ ap (λ (b : Bool). last_of k b + 1) (sym (block-by d sub blocks k x e))

module _ (nrow nb kb ke k len_m ld ls lb lp len len_p : ℕ) (blocks partners : ℕ → ℕ) (lent : LentPre nrow ke k len)
    (read : ReadPre nb kb ke k len_m ld ls lb lp) (here : HerePre ke blocks partners k) (count : len_p ≡ len_m - (k - kb + (k - kb) * nb)) where
  pub step-pre : (d sub : ℕ → Float) (x : Diagonal) (q : ℕ) → x ≡ diagonal_at d sub blocks k → q ≡ partners k - k
      → StepPre (is_block x) (record { nrow = nrow; rows = nrow - ke; nb = nb; columns = ke - k }) q len len_p
  step-pre d sub x q e f =
      let h = lent.here in
      record {
        frame = frame-pre nb kb ke k len_m ld ls lb lp read h nrow len len_p lent count;
        here = ends-in k (past_of blocks k) ke 0 (is_block x) (past_by d sub blocks k _ x e refl) (last-in ke blocks partners k here h);
        row = row_from k ke (partners k) q (partner-ahead ke blocks partners k here) here.partner f;
      }

  pub pair-pre : (d sub : ℕ → Float) (x y : Diagonal) (l p c f q s : ℕ) → l ≡ past_of blocks k → l < ke → HerePre ke blocks partners l
      → x ≡ diagonal_at d sub blocks k → y ≡ diagonal_at d sub blocks l → p ≡ past_of blocks l → c ≡ l - k → f ≡ p - 1 - k
      → q ≡ partners k - k → s ≡ partners l - k
      → PairPre (pair_of (record { nrow = nrow; rows = nrow - ke; nb = nb; columns = ke - k }) c f (record { pivot = x; row = q })
      (record { pivot = y; row = s })) len len_p
      × (q < ke - k)
  pair-pre d sub x y l p c f q s el h there ex ey ep ec ef eq es =
      let later : k ≤ l = omega (arith, past-above blocks k) in
      let ahead : l ≤ partners l = partner-ahead ke blocks partners l there in (
        record {
          frame = frame-pre nb kb ke k len_m ld ls lb lp read lent.here nrow len len_p lent count;
          next = next-from k l c (is_block x) (past_by d sub blocks k l x ex el) ec;
          last = last-from k l c p f (is_block y) later (past_by d sub blocks l p y ey ep) ec ef;
          reach = reach-from k p (partners l) f s (omega (arith, there.ahead.last)) ef es;
          row = row_from k ke (partners l) s (le_trans later ahead) there.partner es;
        },
        row_from k ke (partners k) q (partner-ahead ke blocks partners k here) here.partner eq,
      )

-- ---- a turn

module _ (nrow ncol nb kb ke k len len_m ld ls lb lp : ℕ) (sizes : TailPre nrow ncol nb kb ke len len_m ld ls lb lp) (here : k < ke) where
  -- row ke of column k
  pub lent-start : ke + k * nrow ≤ len
  lent-start =
      let few : k + 1 ≤ ncol = omega (arith, sizes.cols) in
      omega (arith, mul-le-mul_right nrow few, add-mul k 1 nrow, mul_comm nrow ncol, sizes.size, sizes.head, sizes.cols)

  pub lent-place : (a : ℕ) → a ≡ ke + k * nrow → a ≤ len
  lent-place a e = omega (arith, lent-start)

  pub lent-pre : (len_p : ℕ) → len_p ≡ len - (ke + k * nrow) → LentPre nrow ke k len_p
  lent-pre len_p e =
      let few : k + (ke - k - 1) + 1 ≤ ncol = omega (arith, sizes.cols) in
      record {
        height = omega (arith, sizes.cols, sizes.head);
        here = here;
        room =
            omega (
              arith,
              mul-le-mul_right nrow few,
              add-mul (k + (ke - k - 1)) 1 nrow,
              add-mul k (ke - k - 1) nrow,
              mul_comm nrow ncol,
              sizes.size,
              sizes.cols,
              sizes.head,
            );
      }

  pub read-pre : kb ≤ k → ReadPre nb kb ke k len_m ld ls lb lp
  read-pre h =
      record {
        square = sizes.square;
        width = sizes.width;
        from = h;
        in_d = sizes.in_d;
        in_sub = sizes.in_sub;
        in_blocks = sizes.in_blocks;
        in_partners = sizes.in_partners;
      }

-- ---- what has been read, counted from k on

-- what is lent keeps its length
pub lent-kept : (nrow ke k len len' : ℕ) → LentPre nrow ke k len → len' ≡ len → LentPre nrow ke k len'
lent-kept nrow ke k len len' h e = rw e h

pub column-is : (k p row r : ℕ) → r ≡ row - k → row ≡ p → r ≡ p - k
column-is k p row r e f = e ∙ ap (λ (z : ℕ). z - k) f

pub row-ahead : (ke : ℕ) (blocks partners : ℕ → ℕ) (k l p : ℕ) → HerePre ke blocks partners l → k ≤ l → p ≡ partners l → k ≤ p
row-ahead ke blocks partners k l p h o e = omega (arith, partner-ahead ke blocks partners l h)

pub past-later : (blocks : ℕ → ℕ) (k l : ℕ) → l ≡ past_of blocks k → k + 1 ≤ l
past-later blocks k l e = omega (arith, past-above blocks k)

pub still-first : (f l : ℕ) (t : Bool) → t ≡ eqb f l → t ≡ true → f ≡ l
still-first f l t e z = eqb-true f l (sym e ∙ z)
