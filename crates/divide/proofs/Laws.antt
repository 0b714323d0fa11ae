-- Laws of a vector divided by D: one pivot, and pivots in turn. Assumes nothing.
use Prim.Native.Nat.{ℕ, ◌+◌, ◌-◌, ◌<◌, ◌≤◌}
use mathlib.Core.Path.{◌≡◌, sym, ◌∙◌, ap}
use mathlib.Core.Bool.{Bool, true, false}
use mathlib.Core.List.{List}
use native.Mathlib.Omega.{arith}
use borrow.Author.Tests.{ne_eqb, lt-ltb, eqb-true, ltb-true}
use lib.Dec.{ltb}
use lib.ListN.{length, get_or, set, length-set}
use lib.Ieee.{Float, nan}
use Rattle.model.specs.Scalar.{◌⊖◌, ◌⊗◌, reciprocal_of}
use Rattle.model.specs.Matrix.{Row, vec, naturals, put, with_part}
use Rattle.model.specs.Step.{Diagonals, diagonals_of, begins, past_of, block_at, first_multiplier, second_multiplier}
use Rattle.model.specs.Kept.{Paired, Starts}
use Rattle.model.specs.Solve.{divided}
use Rattle.model.specs.declared.Block.{Block}
use Rattle.model.proofs.Cases.{test}
use Rattle.model.proofs.Past.{past-above, past-within, starts-past}
use Rattle.kernels.proofs.Laws.{vec-set, with_part-more, with_part-past}
use Rattle.divide.specs.Divide.{pivot_divided, DividePre}

-- ---- one pivot: t is the test whether a block begins at k

pub two-divided : (ds subs ys zs : List Float) (bs : List ℕ) (k : ℕ) (t : Bool) (b : Block) → t ≡ begins (naturals bs) k → t ≡ true
    → b ≡ block_at (vec ds) (vec subs) k
    → vec zs ≡ put (put (vec ys) k (first_multiplier b (vec ys k) (vec ys (k + 1)))) (k + 1) (second_multiplier b (vec ys k) (vec ys (k + 1)))
    → vec zs ≡ pivot_divided (diagonals_of ds subs bs) k (vec ys)
unfolding pivot_divided
two-divided ds subs ys zs bs k t b e h f g = g ∙ rw (sym e ∙ h, f)

pub one-divided : (ds subs ys zs : List Float) (bs : List ℕ) (k : ℕ) (t : Bool) → t ≡ begins (naturals bs) k → t ≡ false
    → vec zs ≡ put (vec ys) k (vec ys k ⊗ reciprocal_of (vec ds k)) → vec zs ≡ pivot_divided (diagonals_of ds subs bs) k (vec ys)
unfolding pivot_divided
one-divided ds subs ys zs bs k t e h g = g ∙ rw (sym e ∙ h)

pub one-put : (ys : List Float) (k : ℕ) (d r : Float) → k < length ys → r ≡ reciprocal_of d
    → vec (set ys k (get_or ys k nan ⊗ r)) ≡ put (vec ys) k (vec ys k ⊗ reciprocal_of d)
unfolding vec
one-put ys k d r h e = vec-set ys k _ h ∙ rw e

pub two-put : (ys : List Float) (k : ℕ) (b : Block) (r : Float) → k + 1 < length ys → r ≡ reciprocal_of b.det
    → vec (set (set ys k ((b.d22 ⊗ get_or ys k nan ⊖ b.d21 ⊗ get_or ys (k + 1) nan) ⊗ r)) (k + 1)
    ((b.d11 ⊗ get_or ys (k + 1) nan ⊖ b.d21 ⊗ get_or ys k nan) ⊗ r))
    ≡ put (put (vec ys) k (first_multiplier b (vec ys k) (vec ys (k + 1)))) (k + 1) (second_multiplier b (vec ys k) (vec ys (k + 1)))
unfolding vec
two-put ys k b r h e =
    let p = (b.d22 ⊗ get_or ys k nan ⊖ b.d21 ⊗ get_or ys (k + 1) nan) ⊗ r in
    let q = (b.d11 ⊗ get_or ys (k + 1) nan ⊖ b.d21 ⊗ get_or ys k nan) ⊗ r in
    vec-set (set ys k p) (k + 1) q (omega (arith, length-set ys k p)) ∙ ap (λ (f : Row). put f (k + 1) q) (vec-set ys k p (omega arith)) ∙ rw e

-- ---- what each position becomes

module _ (D : Diagonals) (f : Row) (k : ℕ) where
  divided-first : begins D.blocks k ≡ true → divided D f k ≡ first_multiplier (block_at D.d D.sub k) (f k) (f (k + 1))
  unfolding divided
  divided-first t = rw t

  divided-second : begins D.blocks k ≡ true → begins D.blocks (k + 1) ≡ false
      → divided D f (k + 1) ≡ second_multiplier (block_at D.d D.sub k) (f k) (f (k + 1))
  unfolding divided
  divided-second t n = let e : k + 1 - 1 ≡ k = omega arith in rw (n, lt-ltb 0 (k + 1) (omega arith), e, t)

  divided-single : Starts D.blocks k → begins D.blocks k ≡ false → divided D f k ≡ f k ⊗ reciprocal_of (D.d k)
  unfolding divided
  divided-single s t =
      test (ltb 0 k)
      (λ p. test (begins D.blocks (k - 1))
      (λ q. absurd (s (k - 1) (omega (arith, ltb-true 0 k p)) (eqb-true (D.blocks (k - 1)) 1 q)))
      (λ q. rw (t, p, q)))
      (λ p. rw (t, p))

-- ---- pivots in turn: f is the vector at the beginning, y at a turn

divided-pivot : (D : Diagonals) (n k : ℕ) (f y : Row) → Paired n D.blocks → k < n → Starts D.blocks k → y ≡ with_part f 0 k (divided D f)
    → pivot_divided D k y ≡ with_part f 0 (past_of D.blocks k) (divided D f)
unfolding pivot_divided past_of
divided-pivot D n k f y w h s e =
    let own : y k ≡ f k = ap (λ (g : Row). g k) e ∙ with_part-past f 0 k _ k (omega arith) in
    let next : y (k + 1) ≡ f (k + 1) = ap (λ (g : Row). g (k + 1)) e ∙ with_part-past f 0 k _ (k + 1) (omega arith) in
    test (begins D.blocks k)
    (λ t. let two : k + 1 + 1 ≡ k + 2 = omega arith in
    let none : begins D.blocks (k + 1) ≡ false
    = ne_eqb (D.blocks (k + 1)) 1 (λ q. omega (arith, w.apart k h (eqb-true (D.blocks k) 1 t))) in
    rw (t, own, next) (ap (λ (g : Row). put (put g k (first_multiplier (block_at D.d D.sub k) (f k) (f (k + 1)))) (k + 1)
    (second_multiplier (block_at D.d D.sub k) (f k) (f (k + 1)))) e
    ∙ rw (← divided-first D f k t, ← divided-second D f k t none)
    (ap (λ (g : Row). put g (k + 1) (divided D f (k + 1))) (with_part-more f 0 k (divided D f) (omega arith))
    ∙ with_part-more f 0 (k + 1) (divided D f) (omega arith) ∙ ap (λ (j : ℕ). with_part f 0 j (divided D f)) two)))
    (λ t. rw (t, own) (ap (λ (g : Row). put g k (f k ⊗ reciprocal_of (D.d k))) e
    ∙ rw (← divided-single D f k s t) (with_part-more f 0 k (divided D f) (omega arith))))

-- ---- the loop

pub turn_step : (ds subs : List Float) (bs : List ℕ) (k l ld ls n : ℕ) (f y z : Row) → DividePre bs ld ls n → k < n → Starts (naturals bs) k
    → l ≡ past_of (naturals bs) k → y ≡ with_part f 0 k (divided (diagonals_of ds subs bs) f) → z ≡ pivot_divided (diagonals_of ds subs bs) k y
    → z ≡ with_part f 0 l (divided (diagonals_of ds subs bs) f)
turn_step ds subs bs k l ld ls n f y z w h s el e g = g ∙ rw el (divided-pivot (diagonals_of ds subs bs) n k f y w.paired h s e)

pub turn-starts : (bs : List ℕ) (k l ld ls n : ℕ) → DividePre bs ld ls n → k < n → l ≡ past_of (naturals bs) k → Starts (naturals bs) l
turn-starts bs k l ld ls n w h e = starts-past n k l (naturals bs) w.paired h e

pub turn-within : (bs : List ℕ) (k l ld ls n : ℕ) → DividePre bs ld ls n → k < n → l ≡ past_of (naturals bs) k → l ≤ n
turn-within bs k l ld ls n w h e = rw e (past-within n (naturals bs) k w.paired h)

pub turn-less : (bs : List ℕ) (k l n : ℕ) → k < n → l ≡ past_of (naturals bs) k → n - l < n - k
turn-less bs k l n h e = omega (arith, past-above (naturals bs) k)

pub none_before : (f : ℕ → ℕ) → Starts f 0
none_before f c e b = omega arith
