-- Laws of positions taken back in turn: four with their sums begun together, the loops over positions, and what the functions ask of each other.
-- Assumes nothing.
use Prim.Native.Nat.{ℕ, zero, suc, ◌+◌, ◌-◌, ◌*◌, ◌/◌, ◌<◌, ◌≤◌, min}
use mathlib.Core.Path.{◌≡◌, refl, sym, ◌∙◌, ap}
use mathlib.Core.List.{List}
use native.Mathlib.Omega.{arith}
use borrow.Author.Tests.{le-leb}
use lib.ListN.{length, set}
use lib.Ieee.{Float}
use Rattle.model.specs.Scalar.{◌⊗◌}
use Rattle.model.specs.Matrix.{Row, Mat, view, vec, put}
use Rattle.model.specs.Step.{past_of}
use Rattle.model.specs.Solve.{back_at, back_from}
use Rattle.model.proofs.Past.{past_near}
use Rattle.kernels.proofs.Laws.{vec-set, put-other}
use Rattle.forward.specs.Forward.{ForwardPre, ColumnPre, TogetherPre}
use Rattle.forward.proofs.Together.{column-pre, beside-pre, rest-pre}
use Rattle.back.specs.Back.{fallen, fallen_whole, step_back, two_back, steps_back, TwoPre}
use Rattle.back.proofs.Down.{later-append, later_same}

module _ (blocks : ℕ → ℕ) (l : Mat) where
  -- ---- a position whose sum was begun with x, and is ended with y, which is the same from hi on and at the position

  begun : (n hi k : ℕ) (x y : Row) → k + 1 ≤ hi → hi ≤ n → ((i : ℕ) → hi ≤ i → i < n → past_of blocks k ≤ i) → ((i : ℕ) → hi ≤ i → y i ≡ x i) → y k ≡ x k
      → fallen blocks l y k (hi - (k + 1)) (k + 1) (fallen_whole l x k (n - hi) hi) ≡ back_at blocks l n y k
  unfolding fallen fallen_whole
  begun n hi k x y h g past same own =
      let a : n - (k + 1) ≡ hi - (k + 1) + (n - hi) = omega arith in
      let b : k + 1 + (hi - (k + 1)) ≡ hi = omega arith in
      sym (rw a (later-append _ _ (hi - (k + 1)) (n - hi) (k + 1) (y k)
      ∙ rw (b, own) (ap (λ (v : Float). fallen blocks l y k (hi - (k + 1)) (k + 1) v)
      (later_same _ _ _ _ (n - hi) hi (x k) (λ i o p. (le-leb (past_of blocks k) i (past i o (omega arith)), ap (λ (v : Float). l i k ⊗ v) (same i o)))))))

  one-step : (n hi k : ℕ) (s : Float) (x y : Row) → k + 1 ≤ hi → hi ≤ n → ((i : ℕ) → hi ≤ i → i < n → past_of blocks k ≤ i) → s ≡ fallen_whole l x k (n - hi) hi
      → ((i : ℕ) → hi ≤ i → y i ≡ x i) → y k ≡ x k → step_back blocks l hi k s y ≡ put y k (back_at blocks l n y k)
  unfolding step_back
  one-step n hi k s x y h g past e same own = rw e (ap (put y k) (begun n hi k x y h g past same own))

  -- ---- positions in turn

  pub steps-append : (n a b k : ℕ) (x : Row) → steps_back blocks l n (a + b) k x ≡ steps_back blocks l n a k (steps_back blocks l n b (k + a) x)
  unfolding steps_back
  steps-append n a zero k x = let e : a + zero ≡ a = omega arith in rw e
  steps-append n a (suc b) k x =
      let e : a + suc b ≡ suc (a + b) = omega arith in
      let g : k + (a + b) ≡ k + a + b = omega arith in
      rw e (steps-append n a b k _
      ∙ ap (λ (j : ℕ). steps_back blocks l n a k (steps_back blocks l n b (k + a) (put x j (back_at blocks l n x j)))) g)

  steps-are : (n m : ℕ) (x : Row) → steps_back blocks l n m 0 x ≡ back_from blocks l n m x
  unfolding steps_back back_from
  steps-are n zero x = refl
  steps-are n (suc m) x = let e : 0 + m ≡ m = omega arith in rw e (steps-are n m _)

  -- four, two by two
  together : (n k hi : ℕ) (s0 s1 s2 s3 : Float) (x y z : Row) → k + 4 ≤ n → hi ≡ min (k + 5) n
      → (s0 ≡ fallen_whole l x k (n - hi) hi) × (s1 ≡ fallen_whole l x (k + 1) (n - hi) hi)
      → (s2 ≡ fallen_whole l x (k + 2) (n - hi) hi) × (s3 ≡ fallen_whole l x (k + 3) (n - hi) hi)
      → y ≡ two_back blocks l hi (k + 2) s2 s3 x → z ≡ two_back blocks l hi k s0 s1 y → z ≡ steps_back blocks l n 4 k x
  unfolding two_back steps_back
  together n k hi s0 s1 s2 s3 x y z h e (e0, e1) (e2, e3) ey ez =
      let A = put x (k + 3) (back_at blocks l n x (k + 3)) in
      let B = put A (k + 2) (back_at blocks l n A (k + 2)) in
      let C = put B (k + 1) (back_at blocks l n B (k + 1)) in
      let three : k + 2 + 1 ≡ k + 3 = omega arith in
      let none : k ≡ k + 0 = omega arith in
      let fourth : step_back blocks l hi (k + 3) s3 x ≡ A
      = one-step n hi (k + 3) s3 x x (omega arith) (omega arith) (past (k + 3) (omega arith)) e3 (λ i o. refl) refl in
      let in_a : (i : ℕ) → (i ≡ k + 3 → ⊥) → A i ≡ x i = λ i q. put-other x (k + 3) i _ q in
      let third : step_back blocks l hi (k + 2) s2 A ≡ B
      = one-step n hi (k + 2) s2 x A (omega arith) (omega arith) (past (k + 2) (omega arith)) e2 (λ i o. in_a i (λ q. omega arith))
      (in_a (k + 2) (λ q. omega arith)) in
      let in_b : (i : ℕ) → (i ≡ k + 3 → ⊥) → (i ≡ k + 2 → ⊥) → B i ≡ x i = λ i q r. put-other A (k + 2) i _ r ∙ in_a i q in
      let second : step_back blocks l hi (k + 1) s1 B ≡ C
      = one-step n hi (k + 1) s1 x B (omega arith) (omega arith) (past (k + 1) (omega arith)) e1 (λ i o. in_b i (λ q. omega arith) (λ q. omega arith))
      (in_b (k + 1) (λ q. omega arith) (λ q. omega arith)) in
      let in_c : (i : ℕ) → (i ≡ k + 3 → ⊥) → (i ≡ k + 2 → ⊥) → (i ≡ k + 1 → ⊥) → C i ≡ x i = λ i q r t. put-other B (k + 1) i _ t ∙ in_b i q r in
      let first : step_back blocks l hi k s0 C ≡ put C k (back_at blocks l n C k)
      = one-step n hi k s0 x C (omega arith) (omega arith) (past k (omega arith)) e0 (λ i o. in_c i (λ q. omega arith) (λ q. omega arith) (λ q. omega arith))
      (in_c k (λ q. omega arith) (λ q. omega arith) (λ q. omega arith)) in
      ez ∙ ap (λ (w : Row). step_back blocks l hi k s0 (step_back blocks l hi (k + 1) s1 w)) (ey
      ∙ ap (λ (j : ℕ). step_back blocks l hi (k + 2) s2 (step_back blocks l hi j s3 x)) three ∙ ap (step_back blocks l hi (k + 2) s2) fourth ∙ third)
      ∙ ap (step_back blocks l hi k s0) second ∙ first ∙ ap (λ (j : ℕ). put C j (back_at blocks l n C j)) none
    where
      past : (j : ℕ) → j ≤ k + 3 → (i : ℕ) → hi ≤ i → i < n → past_of blocks j ≤ i
      past j o i p q = omega (arith, past_near blocks j)

-- a sum put in its place
pub step-put : (blocks : ℕ → ℕ) (l : Mat) (xs : List Float) (hi k : ℕ) (v r : Float) → k < length xs → r ≡ fallen blocks l (vec xs) k (hi - (k + 1)) (k + 1) v
    → vec (set xs k r) ≡ step_back blocks l hi k v (vec xs)
unfolding step_back
step-put blocks l xs hi k v r h e = vec-set xs k r h ∙ ap (put (vec xs) k) e

-- ---- what the functions ask of each other: m is the vector's length at a turn, or after a call

pub two-pre : (blocks : List ℕ) (n m k j hi len : ℕ) → TogetherPre blocks n k len → m ≡ n → hi ≡ min (k + 5) n → j ≤ k + 2 → k ≤ j → TwoPre blocks m j hi len
two-pre blocks n m k j hi len w e h o p = record {
  first = column-pre blocks n m k (k + 4) hi j len (beside-pre blocks n k hi len w h) e (omega arith);
  second = column-pre blocks n m k (k + 4) hi (j + 1) len (beside-pre blocks n k hi len w h) e (omega arith);
}

pub ones-pre : (blocks : List ℕ) (n m s k len : ℕ) → ForwardPre blocks n len → m ≡ n → s < k → k ≤ n → ColumnPre blocks m (k - 1) n len
ones-pre blocks n m s k len w e h g = column-pre blocks n m 0 n n (k - 1) len (rest-pre blocks n 0 len w (omega arith)) e (omega arith)

-- ---- the loops and the calls

module _ (blocks : ℕ → ℕ) (gs : List Float) (n : ℕ) where
  pub four-back : (m k hi : ℕ) (s0 s1 s2 s3 : Float) (x y z : Row) → k + 4 ≤ n → hi ≡ min (k + 5) n
      → (s0 ≡ fallen_whole (view n gs) x k (n - hi) hi) × (s1 ≡ fallen_whole (view n gs) x (k + 1) (n - hi) hi)
      → (s2 ≡ fallen_whole (view n gs) x (k + 2) (n - hi) hi) × (s3 ≡ fallen_whole (view n gs) x (k + 3) (n - hi) hi)
      → y ≡ two_back blocks (view n gs) hi (k + 2) s2 s3 x → m ≡ n → z ≡ two_back blocks (view m gs) hi k s0 s1 y
      → z ≡ steps_back blocks (view n gs) n 4 k x
  four-back m k hi s0 s1 s2 s3 x y z h e a b ey em ez = together blocks (view n gs) n k hi s0 s1 s2 s3 x y z h e a b ey (rw em at ez)

  pub two_steps : (m hi k : ℕ) (v w : Float) (x y z : Row) → y ≡ step_back blocks (view n gs) hi (k + 1) w x → m ≡ n → z ≡ step_back blocks (view m gs) hi k v y
      → z ≡ two_back blocks (view n gs) hi k v w x
  unfolding two_back
  two_steps m hi k v w x y z ey em ez = ez ∙ rw (em, ey)

  pub ones_step : (m s k : ℕ) (x y w : Row) → m ≡ n → s < k → y ≡ step_back blocks (view m gs) n (k - 1) (x (k - 1)) x
      → steps_back blocks (view n gs) n (k - s) s x ≡ w → steps_back blocks (view n gs) n (k - 1 - s) s y ≡ w
  unfolding steps_back step_back fallen
  ones_step m s k x y w em h ey e =
      let a : k - s ≡ suc (k - 1 - s) = omega arith in
      let b : s + (k - 1 - s) ≡ k - 1 = omega arith in
      rw (ey, em) (ap (λ (j : ℕ). steps_back blocks (view n gs) n (k - 1 - s) s (put x j (back_at blocks (view n gs) n x j))) (sym b) ∙ (rw a at e))

  pub ones-end : (s k : ℕ) (x w : Row) → k ≤ s → steps_back blocks (view n gs) n (k - s) s x ≡ w → x ≡ w
  unfolding steps_back
  ones-end s k x w h e = let a : k - s ≡ 0 = omega arith in rw a at e

  pub fours-step : (m f : ℕ) (x y w : Row) → m ≡ n → 0 < f → y ≡ steps_back blocks (view m gs) m 4 (4 * (f - 1)) x
      → steps_back blocks (view n gs) n (4 * f) 0 x ≡ w → steps_back blocks (view n gs) n (4 * (f - 1)) 0 y ≡ w
  fours-step m f x y w em h ey e =
      let a : 4 * f ≡ 4 * (f - 1) + 4 = omega arith in
      let b : 0 + 4 * (f - 1) ≡ 4 * (f - 1) = omega arith in
      rw (ey, em) (sym (rw b at (steps-append blocks (view n gs) n (4 * (f - 1)) 4 0 x)) ∙ (rw a at e))

  pub fours-end : (f : ℕ) (x w : Row) → f ≤ 0 → steps_back blocks (view n gs) n (4 * f) 0 x ≡ w → x ≡ w
  unfolding steps_back
  fours-end f x w h e = let a : 4 * f ≡ 0 = omega arith in rw a at e

  -- ones, then fours: m is the vector's length after the ones
  pub is-back : (m : ℕ) (x y z : Row) → y ≡ steps_back blocks (view n gs) n (n - 4 * (n / 4)) (4 * (n / 4)) x → m ≡ n
      → z ≡ steps_back blocks (view m gs) m (4 * (n / 4)) 0 y → z ≡ back_from blocks (view n gs) n n x
  is-back m x y z ey em ez =
      let a : 4 * (n / 4) + (n - 4 * (n / 4)) ≡ n = omega arith in
      let b : 0 + 4 * (n / 4) ≡ 4 * (n / 4) = omega arith in
      ez ∙ rw (em, ey) (sym (rw (a, b) at (steps-append blocks (view n gs) n (4 * (n / 4)) (n - 4 * (n / 4)) 0 x))) ∙ steps-are blocks (view n gs) n n x
