-- What the record of pivots keeps to goes through every step of a panel: block bytes are well formed, and no exchange goes back. Assumes nothing.
use mathlib.Core.Path.{◌≡◌, refl, sym, ◌∙◌, ap, subst}
use mathlib.Core.Bool.{Bool, true, false}
use Prim.Native.Nat.{ℕ, zero, suc, ◌+◌, ◌-◌, ◌≤◌, ◌<◌}
use native.Mathlib.Omega.{arith}
use borrow.Author.Tests.{eq-eqb, ne_eqb, ltb-true, ltb-false, eqb-true}
use lib.Dec.{ltb, eqb}
use Rattle.model.specs.Matrix.{put}
use Rattle.model.specs.Step.{Pivots, past_of, first_of, is_block}
use Rattle.model.specs.Head.{State, Tried, refused_by, took, try_of, last_of, byte_of, noted, Progress, stopped, going, after, panel_of}
use Rattle.model.specs.Kept.{Paired, Starts, Ahead, Recorded}
use Rattle.model.specs.declared.Pivoting.{Pivoting}
use Rattle.model.specs.declared.Pivot.{Pivot}
use Rattle.model.proofs.Cases.{test, cmp}
use Rattle.model.proofs.Bounds.{Good, GoodPivot, try-good}

-- a pivot's last column is not before its first; a block's, and a 1x1's
pub last-from : (k : ℕ) (block : Bool) → k ≤ last_of k block
unfolding last_of
last-from k true = omega arith
last-from k false = omega arith

pub last_block : (k : ℕ) (block : Bool) → block ≡ true → last_of k block ≡ k + 1
unfolding last_of
last_block k block e = rw e

pub last-single : (k : ℕ) (block : Bool) → block ≡ false → last_of k block ≡ k
unfolding last_of
last-single k block e = rw e

-- ---- what a step puts at a pivot's columns

-- y at its last column, then x at k: block bytes, partners and test numbers are put so
unfoldable pub step_puts : (ℕ → ℕ) → ℕ → Bool → ℕ → ℕ → ℕ → ℕ
step_puts f k two y x = put (put f (last_of k two) y) k x

-- before k they are as they were
pub puts-before : (f : ℕ → ℕ) (k : ℕ) (two : Bool) (y x c : ℕ) → c < k → step_puts f k two y x c ≡ f c
unfolding step_puts put
puts-before f k two y x c h = rw (ne_eqb c k (λ e. omega arith), ne_eqb c (last_of k two) (λ e. omega (arith, last-from k two)))

-- at k is x
pub puts-at : (f : ℕ → ℕ) (k : ℕ) (two : Bool) (y x : ℕ) → step_puts f k two y x k ≡ x
unfolding step_puts put
puts-at f k two y x = rw (eq-eqb k k refl)

-- at a block's second column is y
pub puts-second : (f : ℕ → ℕ) (k y x : ℕ) → step_puts f k true y x (k + 1) ≡ y
unfolding step_puts put last_of
puts-second f k y x = rw (ne_eqb (k + 1) k (λ e. omega arith), eq-eqb (k + 1) (k + 1) refl)

-- ---- block bytes

-- a step's bytes: 0 at its last column, then 1 at k for a block
abbrev pub step_bytes : (ℕ → ℕ) → ℕ → Bool → ℕ → ℕ
step_bytes f k two = step_puts f k two 0 (byte_of two)

-- before k they are as they were
pub bytes-before : (f : ℕ → ℕ) (k : ℕ) (two : Bool) (c : ℕ) → c < k → step_bytes f k two c ≡ f c
bytes-before f k two = puts-before f k two 0 (byte_of two)

-- at k is the pivot's own
pub bytes-at : (f : ℕ → ℕ) (k : ℕ) (two : Bool) → step_bytes f k two k ≡ byte_of two
bytes-at f k two = puts-at f k two 0 (byte_of two)

-- at a block's second column is 0
pub bytes-second : (f : ℕ → ℕ) (k : ℕ) → step_bytes f k true (k + 1) ≡ 0
bytes-second f k = puts-second f k 0 1

-- a step keeps block bytes well formed
pub step-paired : (f : ℕ → ℕ) (k : ℕ) (two : Bool) → Paired k f → Paired (last_of k two + 1) (step_bytes f k two)
unfolding last_of
step-paired f k true w = record {
  byte = λ c h. cmp c k (λ l. omega (arith, bytes-before f k true c l, w.byte c l)) (λ e. omega (arith, ap (step_bytes f k true) e, bytes-at f k true))
      (λ g. let x : c ≡ k + 1 = omega arith in omega (arith, ap (step_bytes f k true) x, bytes-second f k));
  room = λ c h e. cmp c k (λ l. omega (arith, w.room c l (sym (bytes-before f k true c l) ∙ e))) (λ x. omega arith) (λ g. absurd (second c h g e));
  apart = λ c h e. cmp c k
      (λ l. let r : c + 1 < k = w.room c l (sym (bytes-before f k true c l) ∙ e) in
      bytes-before f k true (c + 1) r ∙ w.apart c l (sym (bytes-before f k true c l) ∙ e))
      (λ x. ap (λ (n : ℕ). step_bytes f k true (n + 1)) x ∙ bytes-second f k) (λ g. absurd (second c h g e));
}
  where
    second : (c : ℕ) → c < k + 1 + 1 → k < c → step_bytes f k true c ≡ 1 → ⊥
    second c h g e = let x : c ≡ k + 1 = omega arith in omega (arith, ap (step_bytes f k true) x, bytes-second f k)
step-paired f k false w = record {
  byte =
      λ c h. cmp c k (λ l. omega (arith, bytes-before f k false c l, w.byte c l)) (λ e. omega (arith, ap (step_bytes f k false) e, bytes-at f k false)) (λ g. omega arith);
  room = λ c h e. cmp c k (λ l. omega (arith, w.room c l (sym (bytes-before f k false c l) ∙ e))) (λ x. absurd (own c x e)) (λ g. omega arith);
  apart = λ c h e. cmp c k
      (λ l. let r : c + 1 < k = w.room c l (sym (bytes-before f k false c l) ∙ e) in
      bytes-before f k false (c + 1) r ∙ w.apart c l (sym (bytes-before f k false c l) ∙ e))
      (λ x. absurd (own c x e)) (λ g. absurd (omega arith));
}
  where
    own : (c : ℕ) → c ≡ k → step_bytes f k false c ≡ 1 → ⊥
    own c x e = omega (arith, ap (step_bytes f k false) x, bytes-at f k false)

-- ---- exchanges

-- records that agree at k agree on where the next pivot begins
pub past-alike : (f g : ℕ → ℕ) (k : ℕ) → f k ≡ g k → past_of f k ≡ past_of g k
unfolding past_of
past-alike f g k e = rw e

-- and on the first exchange, if they agree after k too where a block begins there
pub first_alike : (f g q r : ℕ → ℕ) (k : ℕ) → f k ≡ g k → (g k ≡ 1 → q (k + 1) ≡ r (k + 1)) → first_of f q k ≡ first_of g r k
unfolding first_of
first_alike f g q r k e h = rw e (test (eqb (g k) 1) (λ t. rw t (h (eqb-true (g k) 1 t))) (λ t. rw t))

-- a pivot's own: its block byte is b's, its partners p and kp
pub own-ahead : (f q : ℕ → ℕ) (k : ℕ) (two : Bool) (p kp : ℕ) → f k ≡ byte_of two → q k ≡ kp → (two ≡ true → q (k + 1) ≡ p) → k ≤ p → last_of k two ≤ kp
    → Ahead f q k
unfolding past_of first_of last_of
own-ahead f q k true p kp b e s hp hk = record { first = rw b (omega (arith, s refl)); last = rw b (omega arith) }
own-ahead f q k false p kp b e s hp hk = record { first = rw b (omega arith); last = rw b (omega arith) }

-- no exchange goes back after a step, if none did before it
pub step-ahead : (f q : ℕ → ℕ) (k : ℕ) (two : Bool) (p kp : ℕ) → Recorded k f q → k ≤ p → last_of k two ≤ kp
    → (c : ℕ) → c < last_of k two + 1 → Starts (step_bytes f k two) c → Ahead (step_bytes f k two) (step_puts q k two p kp) c
step-ahead f q k two p kp w hp hk c h s =
    cmp c k before (λ e. subst (Ahead (step_bytes f k two) (step_puts q k two p kp)) (sym e) here) (λ g. absurd (after-it g))
  where
    here : Ahead (step_bytes f k two) (step_puts q k two p kp) k
    here = own-ahead (step_bytes f k two) (step_puts q k two p kp) k two p kp (bytes-at f k two) (puts-at q k two p kp)
        (λ z. rw z (puts-second q k p kp)) hp hk

    before : c < k → Ahead (step_bytes f k two) (step_puts q k two p kp) c
    before l =
        let b : step_bytes f k two c ≡ f c = bytes-before f k two c l in
        let o = w.ahead c l (λ d e z. s d e (bytes-before f k two d (omega arith) ∙ z)) in
        let x : first_of (step_bytes f k two) (step_puts q k two p kp) c ≡ first_of f q c = first_alike _ f _ q c b
        (λ z. puts-before q k two p kp (c + 1) (w.paired.room c l z)) in
        record {
          first = omega (arith, o.first);
          last = omega (arith, past-alike (step_bytes f k two) f c b, puts-before q k two p kp c l, o.last);
        }

    after-it : k < c → ⊥
    after-it g = by two refl
      where
        by : (b : Bool) → two ≡ b → ⊥
        by true e = s k (omega (arith, ap (last_of k) e, last_block k true refl)) (bytes-at f k two ∙ ap byte_of e)
        by false e = omega (arith, ap (last_of k) e, last-single k false refl)

-- ---- a step

-- the record after a step keeps to both
pub noted-recorded : (how : Pivoting) (ke k : ℕ) (p : Pivots) (v : Pivot) → GoodPivot how ke k v → Recorded k p.diagonals.blocks p.partners
    → Recorded (last_of k (is_block v.diagonal) + 1) (noted p k (last_of k (is_block v.diagonal)) v).diagonals.blocks (noted p k (last_of k (is_block v.diagonal)) v).partners
unfolding noted step_puts
noted-recorded how ke k p v g w = record {
  paired = step-paired p.diagonals.blocks k (is_block v.diagonal) w.paired;
  ahead = step-ahead p.diagonals.blocks p.partners k (is_block v.diagonal) v.chosen.p.0 v.chosen.kp.0 w
      (omega (arith, g.own)) g.from;
}

-- nothing is recorded yet
pub none-recorded : (f q : ℕ → ℕ) → Recorded 0 f q
none-recorded f q = record {
  paired = record { byte = λ c h. absurd (omega arith); room = λ c h e. absurd (omega arith); apart = λ c h e. absurd (omega arith) };
  ahead = λ c h s. absurd (omega arith);
}

-- a pivot begins where the record ends
pub end-starts : (n : ℕ) (f q : ℕ → ℕ) → Recorded n f q → Starts f n
end-starts n f q w c e b = omega (arith, w.paired.room c (omega arith) b)

-- a step at k or later leaves the start at kb
pub noted-starts : (kb k e : ℕ) (p : Pivots) (v : Pivot) → kb ≤ k → k ≤ e → Starts p.diagonals.blocks kb → Starts (noted p k e v).diagonals.blocks kb
unfolding noted put
noted-starts kb k e p v h l s c x b =
    s c x (sym (rw (ne_eqb c k (λ z. omega arith), ne_eqb c e (λ z. omega arith))) ∙ b)

-- ---- what every step keeps, a panel keeps

-- of the state at a panel's end
abbrev pub Reached : (ℕ → Pivots → Type 0) → ℕ → Progress → Type 0
Reached P ke (stopped r) = Unit {0}
Reached P ke (going k s) = (k ≡ ke) × P ke s.pivots

module _ (ke : ℕ) (how : Pivoting) (P : ℕ → Pivots → Type 0)
    (step : (k : ℕ) (p : Pivots) (v : Pivot) → GoodPivot how ke k v → P k p
    → P (last_of k (is_block v.diagonal) + 1) (noted p k (last_of k (is_block v.diagonal)) v)) where
  -- through what a step leads to: a refusal, or the next column
  pub after-reached : (k : ℕ) (s : State) (f : ℕ → State → Progress) (t : Tried) → Good how ke k t → P k s.pivots
      → ((m : ℕ) (u : State) → k < m → m ≤ ke → P m u.pivots → Reached P ke (f m u)) → Reached P ke (after t s k f)
  after-reached k s f (refused_by r) g w next = tt
  after-reached k s f (took v a m) g w next =
      next (last_of k (is_block v.diagonal) + 1) _ (omega (arith, last-from k (is_block v.diagonal))) (omega (arith, g.last)) (step k s.pivots v g w)

  -- through a panel
  pub panel-reached : (n k : ℕ) (s : State) → k ≤ ke → ke - k ≤ n → P k s.pivots → Reached P ke (panel_of ke how n k s)
  unfolding panel_of
  panel-reached zero k s h f w = let e : k ≡ ke = omega arith in (e, subst (λ (m : ℕ). P m s.pivots) e w)
  panel-reached (suc n) k s h f w =
      test (ltb k ke)
      (λ t. rw t (after-reached k s (panel_of ke how n) (try_of ke s.a s.mult how k)
      (try-good ke s.a s.mult how k (ltb-true k ke t)) w (λ m u a b kept. panel-reached n m u b (omega arith) kept)))
      (λ t. let e : k ≡ ke = omega (arith, ltb-false k ke t) in rw t (e, subst (λ (m : ℕ). P m s.pivots) e w))
