-- Laws of LAPACK's lists: of a number, of a search for a row, of one pivot on the way from LAPACK, and of what the walks keep. Assumes nothing.
use Rattle.std.specs.Prelude.{ℤ, pos, negsuc, unsigned_abs, Ok, Err}
use mathlib.Core.Path.{◌≡◌, refl, sym, ◌∙◌, ap}
use mathlib.Core.Bool.{Bool, true, false, not, ◌&&◌}
use Prim.Native.Nat.{ℕ, zero, suc, ◌+◌, ◌-◌, ◌≤◌, ◌<◌}
use native.Mathlib.Omega.{arith}
use borrow.Author.Tests.{eq-eqb, lt-ltb, le-leb, eqb-true, eqb-false, ltb-true, leb-true}
use lib.Dec.{ltb, eqb}
use Rattle.model.specs.Head.{last_of}
use Rattle.model.specs.Answer.{Check, or_else, refuse_if}
use Rattle.model.specs.Lapack.{number_of, is_negative, same_number, goes, walk, place_from, pair_sound, row_sound, fault_at, Arranged, past_pivot, pivot_read}
use Rattle.model.specs.declared.Refusal.TheVariants.{ListNumber, ListPair}
use Rattle.model.proofs.Cases.{test, and_left, and_right}
use Rattle.model.proofs.Recorded.{last-from}
use Rattle.model.proofs.Walk.{same-ok, walk-turn}

-- ---- numbers

pub negative-number : (block : Bool) (p : ℕ) → is_negative (number_of block p) ≡ block
negative-number true p = refl
negative-number false p = refl

pub size-number : (block : Bool) (p : ℕ) → unsigned_abs (number_of block p) ≡ p + 1
size-number true p = omega arith
size-number false p = refl

-- a number that is not 0, made again
pub number-again : (z : ℤ) → 0 < unsigned_abs z → number_of (is_negative z) (unsigned_abs z - 1) ≡ z
number-again (pos n) h = ap pos (omega arith)
number-again (negsuc n) h = ap negsuc (omega arith)

same-is : (x y : ℤ) → same_number x y ≡ true → x ≡ y
same-is (pos a) (pos b) h = ap pos (eqb-true a b h)
same-is (pos a) (negsuc b) h = absurd (let w : ◌≡◌ {A = ℕ} 0 1 = cc in omega arith)
same-is (negsuc a) (pos b) h = absurd (let w : ◌≡◌ {A = ℕ} 0 1 = cc in omega arith)
same-is (negsuc a) (negsuc b) h = ap negsuc (eqb-true a b h)

is-same : (x y : ℤ) → x ≡ y → same_number x y ≡ true
is-same x y e = rw e (self y)
  where
    self : (z : ℤ) → same_number z z ≡ true
    self (pos n) = eq-eqb n n refl
    self (negsuc n) = eq-eqb n n refl

-- ---- a search for a row that is there

pub place-found : (rows : ℕ → ℕ) (r m k q : ℕ) → k ≤ q → q < k + m → rows q ≡ r
    → (k ≤ place_from rows r m k) × (place_from rows r m k < k + m) × (rows (place_from rows r m k) ≡ r)
unfolding place_from
place-found rows r zero k q h l e = absurd (omega arith)
place-found rows r (suc m) k q h l e =
    test (eqb (rows k) r)
    (λ t. rw t (omega arith, omega arith, eqb-true (rows k) r t))
    (λ t. let past : k < q = other t in
    let f = place-found rows r m (k + 1) q (omega arith) (omega arith) e in
    rw t (omega (arith, f.0), omega (arith, f.1), f.2))
  where
    other : eqb (rows k) r ≡ false → k < q
    other t = test (eqb k q) (λ s. absurd (eqb-false (rows k) r t (ap rows (eqb-true k q s) ∙ e))) (λ s. omega (arith, eqb-false k q s))

-- ---- one pivot on the way from LAPACK

-- column k of n has no fault: a negative number has its like after it, and a number names a row from the moved column on
pub record Faultless (n : ℕ) (list : ℕ → ℤ) (k : ℕ) : Type 0 where
  pub pair : is_negative (list k) ≡ true → (k + 1 < n) × (list (k + 1) ≡ list k)
  pub low : last_of k (is_negative (list k)) < unsigned_abs (list k)
  pub high : unsigned_abs (list k) ≤ n

faultless-passes : (n : ℕ) (list : ℕ → ℤ) (k : ℕ) → Faultless n list k → fault_at n list k ≡ Ok tt
unfolding fault_at
faultless-passes n list k w =
    let e = last_of k (is_negative (list k)) in
    let row : row_sound n e (list k) ≡ true
    = rw (lt-ltb e (unsigned_abs (list k)) w.low, le-leb (unsigned_abs (list k)) n w.high) refl in
    rw (pair, row) refl
  where
    pair : pair_sound n list k ≡ true
    pair =
        test (is_negative (list k))
        (λ t. let p = w.pair t in rw (t, lt-ltb (k + 1) n p.0, is-same (list (k + 1)) (list k) p.1) refl)
        (λ t. rw t refl)

passes-faultless : (n : ℕ) (list : ℕ → ℤ) (k : ℕ) → fault_at n list k ≡ Ok tt → Faultless n list k
unfolding fault_at
passes-faultless n list k h =
    let e = last_of k (is_negative (list k)) in
    let row = sound-row (pair_sound n list k) (row_sound n e (list k)) h in
    record {
      pair = λ t.
          let both : ltb (k + 1) n && same_number (list (k + 1)) (list k) ≡ true
          = rw t at (sound-pair (pair_sound n list k) (row_sound n e (list k)) h) in
          (ltb-true (k + 1) n (and_left _ _ both), same-is (list (k + 1)) (list k) (and_right (ltb (k + 1) n) _ both));
      low = ltb-true e (unsigned_abs (list k)) (and_left _ _ row);
      high = leb-true (unsigned_abs (list k)) n (and_right (ltb e (unsigned_abs (list k))) _ row);
    }
  where
    sound-pair : (a b : Bool) → or_else (refuse_if (not a) (ListPair (record { 0 = k }))) (refuse_if (not b) (ListNumber (record { 0 = k }))) ≡ Ok tt → a ≡ true
    sound-pair true b e = refl
    sound-pair false b e = absurd (let w : ◌≡◌ {A = ℕ} 0 1 = cc in omega arith)

    sound-row : (a b : Bool) → or_else (refuse_if (not a) (ListPair (record { 0 = k }))) (refuse_if (not b) (ListNumber (record { 0 = k }))) ≡ Ok tt → b ≡ true
    sound-row true true e = refl
    sound-row true false e = absurd (let w : ◌≡◌ {A = ℕ} 0 1 = cc in omega arith)
    sound-row false b e = absurd (let w : ◌≡◌ {A = ℕ} 0 1 = cc in omega arith)

-- the walk goes on past a column without a fault
pub read-past : (n : ℕ) (list : ℕ → ℤ) (m k : ℕ) (a : Arranged) → k < n → Faultless n list k
    → walk n (pivot_read n list) (suc m) k a ≡ walk n (pivot_read n list) m (last_of k (is_negative (list k)) + 1) (past_pivot a k (list k))
unfolding pivot_read goes
read-past n list m k a h w = walk-turn n (pivot_read n list) m k a h ∙ rw (faultless-passes n list k w) refl

-- a step that was taken had no fault at k
pub record ReadOn (n : ℕ) (list : ℕ → ℤ) (k l : ℕ) (a b : Arranged) : Type 0 where
  pub column : Faultless n list k
  pub next : l ≡ last_of k (is_negative (list k)) + 1
  pub made : b ≡ past_pivot a k (list k)

pub read-on : (n : ℕ) (list : ℕ → ℤ) (k l : ℕ) (a b : Arranged) → pivot_read n list k a ≡ Ok (l, b) → ReadOn n list k l a b
unfolding pivot_read
read-on n list k l a b e = by-fault (fault_at n list k) refl
  where
    taken : ℕ × Arranged
    taken = (last_of k (is_negative (list k)) + 1, past_pivot a k (list k))

    by-fault : (c : Check) → fault_at n list k ≡ c → ReadOn n list k l a b
    by-fault (Ok u) f =
        let y : (l, b) ≡ taken = same-ok (l, b) taken (sym e ∙ rw f refl) in
        record { column = passes-faultless n list k f; next = ap (λ (x : ℕ × Arranged). x.0) y; made = ap (λ (x : ℕ × Arranged). x.1) y }
    by-fault (Err r) f = absurd (let z : Err r ≡ Ok (l, b) = rw f at e in let w : ◌≡◌ {A = ℕ} 0 1 = cc in omega arith)

-- so a walk goes up
pub read-up : (n : ℕ) (list : ℕ → ℤ) (k l : ℕ) (a b : Arranged) → pivot_read n list k a ≡ Ok (l, b) → k < l
read-up n list k l a b e = let o = read-on n list k l a b e in omega (arith, o.next, last-from k (is_negative (list k)))

-- a walk that ends well had no fault at k, and went on
pub record WentOn (n : ℕ) (list : ℕ → ℤ) (m k : ℕ) (a b : Arranged) : Type 0 where
  pub column : Faultless n list k
  pub rest : walk n (pivot_read n list) m (last_of k (is_negative (list k)) + 1) (past_pivot a k (list k)) ≡ Ok b

pub went-on : (n : ℕ) (list : ℕ → ℤ) (m k : ℕ) (a b : Arranged) → k < n → walk n (pivot_read n list) (suc m) k a ≡ Ok b → WentOn n list m k a b
unfolding pivot_read goes
went-on n list m k a b h e = by-fault (fault_at n list k) refl
  where
    by-fault : (c : Check) → fault_at n list k ≡ c → WentOn n list m k a b
    by-fault (Ok u) f = record {
      column = passes-faultless n list k f;
      rest = sym (walk-turn n (pivot_read n list) m k a h ∙ rw f refl) ∙ e;
    }
    by-fault (Err r) f =
        absurd (let z : Err r ≡ Ok b = sym (walk-turn n (pivot_read n list) m k a h ∙ rw f refl) ∙ e in let w : ◌≡◌ {A = ℕ} 0 1 = cc in omega arith)
