-- Laws of rising rows: a row stands at one place only, and a search may go on where the one for a lesser row ended. Assumes nothing.
use mathlib.Core.Path.{◌≡◌, refl, sym, ◌∙◌, ap}
use mathlib.Core.Bool.{Bool, true, false}
use mathlib.Core.List.{List}
use Prim.Native.Nat.{ℕ, zero, suc, ◌+◌, ◌-◌, ◌≤◌, ◌<◌}
use native.Mathlib.Omega.{arith}
use borrow.Author.Tests.{eqb-true, eqb-false, ltb-true, ltb-false, ne_eqb, lt-ltb, le-ltb}
use lib.Dec.{ltb, eqb}
use lib.ListN.{length, get_or, set, length-set}
use lib.Seq.{get_or-set_same, get_or-set_other}
use Rattle.model.specs.Matrix.{naturals}
use Rattle.model.specs.Factor.{every_from}
use Rattle.model.specs.Assembly.{first_not}
use Rattle.model.specs.Update.{place_from}
use Rattle.model.specs.declared.Refusal.TheVariants.{AbsentRow}
use Rattle.std.specs.Prelude.{Ok, Err}
use Rattle.std.specs.List.{IsAllAdjacentAnswer}
use Rattle.model.proofs.Cases.{test, cmp}
use Rattle.model.proofs.Every.{every-at}
use Rattle.checks.proofs.First.{first_step, first-bad, first-end}
use Rattle.landing.specs.Rows.{rises_at, there_at, LocatePre, Located}
use Rattle.landing.proofs.Scans.{Place, place-within, place-all, place-one}

-- each of n rows is below the next
pub record Rising (f : ℕ → ℕ) (n : ℕ) : Type 0 where
  pub next : (i : ℕ) → i + 1 < n → f i < f (i + 1)

pub rising-is : (f : ℕ → ℕ) (n : ℕ) → every_from (rises_at f n) n 0 ≡ true → Rising f n
unfolding rises_at
rising-is f n e = record {
  next = λ i h.
      let t : rises_at f n i ≡ true = ap (λ (k : ℕ). rises_at f n k) (omega arith) ∙ every-at (rises_at f n) n 0 i e (omega arith) in
      ltb-true (f i) (f (i + 1)) (rw (ne_eqb (i + 1) n (λ x. omega arith)) at t);
}

-- each of n places holds, so all do
every-all : (f : ℕ → Bool) (n i : ℕ) → ((k : ℕ) → k < n → f (i + k) ≡ true) → every_from f n i ≡ true
unfolding every_from
every-all f zero i h = refl
every-all f (suc n) i h =
    let here : f i ≡ true = ap f (omega arith) ∙ h 0 (omega arith) in
    rw here (every-all f n (i + 1) (λ k l. ap f (omega arith) ∙ h (suc k) (omega arith)))

-- what std's 'is_sorted_by' answers of each row and the next is the definition's test of all rows
pub rising-says : (xs : List ℕ) (r : Bool) → IsAllAdjacentAnswer (λ x y b. b ≡ ltb x y) xs r
    → r ≡ every_from (rises_at (naturals xs) (length xs)) (length xs) 0
unfolding rises_at naturals
rising-says xs true h =
    sym (every-all (rises_at (naturals xs) (length xs)) (length xs) 0
    (λ k l. let z : 0 + k ≡ k = omega arith in
    rw z (test (eqb (k + 1) (length xs)) (λ t. rw t) (λ t. rw (t, ← h k 0 (omega (arith, eqb-false (k + 1) (length xs) t)))))))
rising-says xs false h =
    let apart : every_from (rises_at (naturals xs) (length xs)) (length xs) 0 ≡ true → ⊥
    = λ t. omega (arith, ltb-false _ _ (sym (h.2 0)), (rising-is (naturals xs) (length xs) t).next h.0 h.1) in
    test (every_from (rises_at (naturals xs) (length xs)) (length xs) 0) (λ t. absurd (apart t)) (λ t. sym t)

module _ (f : ℕ → ℕ) (n : ℕ) (r : Rising f n) where
  further : (d i : ℕ) → i + (d + 1) < n → f i < f (i + (d + 1))
  further zero i h = let a : i + (0 + 1) ≡ i + 1 = omega arith in rw a (r.next i (omega arith))
  further (suc d) i h =
      let a : i + (suc d + 1) ≡ i + (d + 1) + 1 = omega arith in
      rw a (omega (arith, further d i (omega arith), r.next (i + (d + 1)) (omega arith)))

  pub rising-lt : (i j : ℕ) → i < j → j < n → f i < f j
  rising-lt i j h l = let a : i + (j - (i + 1) + 1) ≡ j = omega arith in rw a at (further (j - (i + 1)) i (omega arith))

  -- the row at j stands at j alone
  pub rising-one : (i j : ℕ) → i < n → j < n → f i ≡ f j → i ≡ j
  rising-one i j h l e =
      cmp i j (λ a. absurd (omega (arith, rising-lt i j a l))) (λ a. a) (λ a. absurd (omega (arith, rising-lt j i a h)))

  pub rising-place : (j : ℕ) → j < n → place_from f (f j) n 0 ≡ j
  rising-place j h =
      place-one f (f j) 0 n (place_from f (f j) n 0) j (place-all f (f j) n)
      (record { low = omega arith; high = omega arith; before = λ i a b x. omega (arith, rising-one i j (omega arith) h x); here = λ _. refl })

-- ---- locating: a search from `from` on for row i of the descendant

-- the target's rows before `from` are below the descendant's from i on
pub record Passed (rows krows : List ℕ) (from i : ℕ) : Type 0 where
  pub below : (q e : ℕ) → q < from → i ≤ e → e < length krows → naturals rows q < naturals krows e

module _ (rows krows : List ℕ) (start room : ℕ) (w : LocatePre rows krows start room) (from i p : ℕ) (h : i < length krows) (f : from ≤ length rows)
    (passed : Passed rows krows from i) (e : p ≡ place_from (naturals rows) (naturals krows i) (length rows - from) from) where
  found : Place (naturals rows) (naturals krows i) from (length rows) p
  found = rw e (place-within (naturals rows) (naturals krows i) from (length rows) f)

  whole : place_from (naturals rows) (naturals krows i) (length rows) 0 ≡ p
  whole = place-one (naturals rows) (naturals krows i) 0 (length rows) (place_from (naturals rows) (naturals krows i) (length rows) 0) p
      (place-all (naturals rows) (naturals krows i) (length rows))
      (record {
        low = omega arith;
        high = found.high;
        before = λ q l m x. test (ltb q from)
            (λ t. omega (arith, passed.below q i (ltb-true q from t) (omega arith) h))
            (λ t. found.before q (ltb-false q from t) m x);
        here = found.here;
      })

  absent : p ≡ length rows → there_at rows (naturals krows) i ≡ false
  unfolding there_at
  absent x = rw (whole, x, le-ltb (length rows) (length rows) (omega arith))

  module _ (x : p ≡ length rows → ⊥) where
    inside : p < length rows
    inside = cmp p (length rows) (λ l. l) (λ q. absurd (x q)) (λ g. absurd (omega (arith, found.high)))

    there : there_at rows (naturals krows) i ≡ true
    unfolding there_at
    there = rw (whole, lt-ltb p (length rows) inside)

    passed-step : Passed rows krows (p + 1) (i + 1)
    passed-step = record {
      below = λ q d l m n.
          let at : naturals rows p ≡ naturals krows i = found.here inside in
          let up : naturals krows i < naturals krows d
          = rising-lt (naturals krows) (length krows) (rising-is (naturals krows) (length krows) w.descendant) i d (omega arith) n in
          cmp q p (λ a. omega (arith, rising-lt (naturals rows) (length rows) (rising-is (naturals rows) (length rows) w.target) q p a inside))
          (λ a. omega (arith, ap (naturals rows) a)) (λ a. absurd (omega arith));
    }

    located-step : (places : List ℕ) → i < length places → Located rows krows start i places → Located rows krows start (i + 1) (set places i p)
    unfolding naturals
    located-step places l d = record {
      inside = λ r a b. test (eqb r i)
          (λ t. let z : get_or (set places i p) r 0 ≡ p = ap (λ (k : ℕ). get_or (set places i p) k 0) (eqb-true r i t) ∙ get_or-set_same places i p 0 l in
          omega (arith, inside))
          (λ t. let z : get_or (set places i p) r 0 ≡ get_or places r 0 = get_or-set_other places i r p 0 (eqb-false r i t) in
          omega (arith, d.inside r a (omega (arith, eqb-false r i t))));
      same = λ r a b. test (eqb r i)
          (λ t. let z : get_or (set places i p) r 0 ≡ p = ap (λ (k : ℕ). get_or (set places i p) k 0) (eqb-true r i t) ∙ get_or-set_same places i p 0 l in
          ap (λ (k : ℕ). get_or rows k 0) z ∙ found.here inside ∙ ap (λ (k : ℕ). get_or krows k 0) (sym (eqb-true r i t)))
          (λ t. let z : get_or (set places i p) r 0 ≡ get_or places r 0 = get_or-set_other places i r p 0 (eqb-false r i t) in
          ap (λ (k : ℕ). get_or rows k 0) z ∙ d.same r a (omega (arith, eqb-false r i t)));
    }

-- ---- the loop that locates the descendant's rows from `start` on

-- what it has come to at row i: the scan from there on finds what the whole scan finds, and the rows before have their places
pub record Locating (rows krows : List ℕ) (start room : ℕ) (places : List ℕ) (from i : ℕ) : Type 0 where
  pub low : start ≤ i
  pub high : i ≤ length krows
  pub next : from ≤ length rows
  pub size : length places ≡ room
  pub scan : first_not (there_at rows (naturals krows)) AbsentRow (length krows - i) i ≡ first_not (there_at rows (naturals krows)) AbsentRow (length krows - start) start
  pub passed : Passed rows krows from i
  pub located : Located rows krows start i places

module _ (rows krows : List ℕ) (start room : ℕ) (places : List ℕ) (w : LocatePre rows krows start room) where
  module _ (from i p : ℕ) (v : Locating rows krows start room places from i) (h : i < length krows)
      (e : p ≡ place_from (naturals rows) (naturals krows i) (length rows - from) from) where
    pub locating-step : (p ≡ length rows → ⊥) → Locating rows krows start room (set places i p) (p + 1) (i + 1)
    locating-step x = record {
      low = omega (arith, v.low);
      high = omega arith;
      next = omega (arith, inside rows krows start room w from i p h v.next v.passed e x);
      size = length-set places i p ∙ v.size;
      scan = first_step (there_at rows (naturals krows)) AbsentRow (length krows) i true _ h
          (sym (there rows krows start room w from i p h v.next v.passed e x)) refl v.scan;
      passed = passed-step rows krows start room w from i p h v.next v.passed e x;
      located = located-step rows krows start room w from i p h v.next v.passed e x places (omega (arith, v.size, w.fits)) v.located;
    }

    pub locating-bad : p ≡ length rows → Err (AbsentRow i) ≡ first_not (there_at rows (naturals krows)) AbsentRow (length krows - start) start
    locating-bad x =
        first-bad (there_at rows (naturals krows)) AbsentRow (length krows) i false _ (AbsentRow i) h
        (sym (absent rows krows start room w from i p h v.next v.passed e x)) refl v.scan refl

  module _ (from i : ℕ) (v : Locating rows krows start room places from i) (h : length krows ≤ i) where
    pub locating-end : Ok tt ≡ first_not (there_at rows (naturals krows)) AbsentRow (length krows - start) start
    locating-end = first-end (there_at rows (naturals krows)) AbsentRow (length krows) i _ h v.scan
