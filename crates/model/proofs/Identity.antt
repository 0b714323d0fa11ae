-- With L the identity, solve is the division by D in the recorded order, but for the signs of zeros. Assumes nothing.
use mathlib.Core.Path.{◌≡◌, refl, sym, ◌∙◌, ap, subst}
use mathlib.Core.Logic.{inl}
use mathlib.Core.Bool.{Bool, true}
use Prim.Native.Nat.{ℕ, zero, suc, ◌+◌, ◌-◌, ◌≤◌, ◌<◌}
use native.Mathlib.Omega.{arith}
use borrow.Author.Tests.{eqb-true}
use lib.Dec.{T, eqb}
use lib.Ieee.{Float, nan, binary64, eq, fits}
use lib.Ieee.Fits.{sub-fits, mul-fits}
use Rattle.std.specs.Prelude.{Ok}
use Rattle.model.specs.Scalar.{◌⊖◌, ◌⊗◌, is_finite, reciprocal_of}
use Rattle.model.specs.Matrix.{Row, Mat, view, vec, naturals, put, tabulate}
use Rattle.model.specs.Step.{Diagonals, diagonals_of, begins, ends_block, block_at}
use Rattle.model.specs.Answer.{Check}
use Rattle.model.specs.Solve.{order_sound, order_at, check_order, right_side_at, check_right_side, solve_check, solved_after}
use Rattle.model.specs.Solve.{has_entry, less_earlier, less_later}
use Rattle.model.specs.Solve.{forward_at, forward_from, divided, back_at, back_from, substituted, ordered, solution_of, solve_of}
use Rattle.model.specs.Solution.{IdentityDivides}
use Rattle.model.proofs.Cases.{test}
use Rattle.model.proofs.Every.{first-all}
use Rattle.model.proofs.Order.{sound-inside, sound-apart, returned-at}
use Rattle.model.proofs.Entry.{first-sound, second-sound}
use Rattle.model.proofs.Tabulated.{get_d_tabulate}
use Rattle.model.proofs.Finite.{finite-factors, finite-terms}
use Rattle.model.proofs.Zeros.{Zero, zero-is, zero-times, less-zero}
use Rattle.model.proofs.Zeros.{SameButSign, same-on, same-finite, same-equal, times-same, same-times, less-same}

-- w is a number of the format, and v but for the sign of a zero
record Near (v w : Float) : Type 0 where
  same : SameButSign v w
  held : T (fits binary64 w)

-- ---- a number less terms that are zeros

near-less : (v w x : Float) → Near v w → Zero x → Near v (w ⊖ x)
near-less v w x n z = record { same = same-on v w (w ⊖ x) n.same (less-zero w x n.held z); held = sub-fits binary64 w x }

near-earlier : (there : ℕ → Bool) (term : Row) (m : ℕ) (v w : Float) → Near v w → ((j : ℕ) → j < m → there j ≡ true → Zero (term j))
    → Near v (less_earlier there term m w)
unfolding less_earlier
near-earlier there term zero v w n z = n
near-earlier there term (suc m) v w n z =
    let before : Near v (less_earlier there term m w) = near-earlier there term m v w n (λ j o t. z j (omega arith) t) in
    test (there m) (λ t. rw t (near-less v _ (term m) before (z m (omega arith) t))) (λ t. rw t before)

near-later : (there : ℕ → Bool) (term : Row) (m j : ℕ) (v w : Float) → Near v w → ((i : ℕ) → j ≤ i → i < j + m → there i ≡ true → Zero (term i))
    → Near v (less_later there term m j w)
unfolding less_later
near-later there term zero j v w n z = n
near-later there term (suc m) j v w n z =
    let after : Near v (less_later there term m (j + 1) w) = near-later there term m (j + 1) v w n (λ i o p t. z i (omega arith) (omega arith) t) in
    test (there j) (λ t. rw t (near-less v _ (term j) after (z j (omega arith) (omega arith) t))) (λ t. rw t after)

-- ---- divided

-- a block's formula at two positions, where the one's quotient is finite
formula-near : (a b r x y v w : Float) → SameButSign x y → SameButSign v w → is_finite ((a ⊗ x ⊖ b ⊗ v) ⊗ r) ≡ true
    → Near ((a ⊗ x ⊖ b ⊗ v) ⊗ r) ((a ⊗ y ⊖ b ⊗ w) ⊗ r)
formula-near a b r x y v w p q h =
    let terms = finite-terms (a ⊗ x) (b ⊗ v) (finite-factors (a ⊗ x ⊖ b ⊗ v) r h).0 in
    let less : SameButSign (a ⊗ x ⊖ b ⊗ v) (a ⊗ y ⊖ b ⊗ w)
    = less-same (a ⊗ x) (a ⊗ y) (b ⊗ v) (b ⊗ w) (mul-fits binary64 a x) (mul-fits binary64 a y) (same-times a x y p terms.0) (same-times b v w q terms.1) in
    record { same = times-same (a ⊗ x ⊖ b ⊗ v) (a ⊗ y ⊖ b ⊗ w) r less h; held = mul-fits binary64 (a ⊗ y ⊖ b ⊗ w) r }

divided-near : (D : Diagonals) (y z : Row) → ((i : ℕ) → SameButSign (y i) (z i)) → (k : ℕ) → is_finite (divided D y k) ≡ true
    → Near (divided D y k) (divided D z k)
unfolding divided
divided-near D y z a k h =
    test (begins D.blocks k)
    (λ t. let b = block_at D.d D.sub k in
    rw t (formula-near b.d22 b.d21 (reciprocal_of b.det) (y k) (z k) (y (k + 1)) (z (k + 1)) (a k) (a (k + 1)) (rw t at h)))
    (λ t. test (ends_block D.blocks k)
    (λ u. let b = block_at D.d D.sub (k - 1) in
    rw (t, u) (formula-near b.d11 b.d21 (reciprocal_of b.det) (y k) (z k) (y (k - 1)) (z (k - 1)) (a k) (a (k - 1)) (rw (t, u) at h)))
    (λ u. let r = reciprocal_of (D.d k) in
    rw (t, u) (record { same = times-same (y k) (z k) r (a k) (rw (t, u) at h); held = mul-fits binary64 (z k) r })))

-- ---- the steps, where the entries of L are zeros

module _ (n : ℕ) (D : Diagonals) (l : Mat) (zeros : (i j : ℕ) → i < n → has_entry D.blocks i j ≡ true → Zero (l i j)) where
  -- forward: every number stays what the right side y has, but for the sign of a zero
  module _ (y : Row) (right : (k : ℕ) → k < n → is_finite (y k) ≡ true) where
    forward-same : (c k : ℕ) (z : Row) → k + c ≤ n → ((i : ℕ) → SameButSign (y i) (z i)) → ((i : ℕ) → i < n → T (fits binary64 (z i)))
        → (i : ℕ) → SameButSign (y i) (forward_from D.blocks l c k z i)
    unfolding forward_from put
    forward-same zero k z o w g i = w i
    forward-same (suc c) k z o w g i =
        let term : (j : ℕ) → j < k → has_entry D.blocks k j ≡ true → Zero (l k j ⊗ z j)
        = λ j p t. zero-times (l k j) (z j) (zeros k j (omega arith) t) (same-finite (y j) (z j) (w j) (right j (omega arith))) in
        let at : Near (y k) (z k) = record { same = w k; held = g k (omega arith) } in
        let here : Near (y k) (forward_at D.blocks l z k) = near-earlier _ _ k (y k) (z k) at term in
        forward-same c (k + 1) (put z k (forward_at D.blocks l z k)) (omega arith)
        (λ m. test (eqb m k) (λ t. rw (t, eqb-true m k t) here.same) (λ t. rw t (w m)))
        (λ m p. test (eqb m k) (λ t. rw t here.held) (λ t. rw t (g m p))) i

  -- back: every number stays near the quotient q
  module _ (q : Row) (finite : (k : ℕ) → k < n → is_finite (q k) ≡ true) where
    back-near : (c : ℕ) (x : Row) → c ≤ n → ((i : ℕ) → i < n → Near (q i) (x i)) → (i : ℕ) → i < n → Near (q i) (back_from D.blocks l n c x i)
    unfolding back_from put
    back-near zero x o w i h = w i h
    back-near (suc c) x o w i h =
        let term : (j : ℕ) → c + 1 ≤ j → j < c + 1 + (n - (c + 1)) → has_entry D.blocks j c ≡ true → Zero (l j c ⊗ x j)
        = λ j p r t. let m : j < n = omega arith in
        zero-times (l j c) (x j) (zeros j c m t) (same-finite (q j) (x j) (w j m).same (finite j m)) in
        let here : Near (q c) (back_at D.blocks l n x c) = near-later _ _ (n - (c + 1)) (c + 1) (q c) (x c) (w c (omega arith)) term in
        back-near c (put x c (back_at D.blocks l n x c)) (omega arith)
        (λ m g. test (eqb m c) (λ t. rw (t, eqb-true m c t) here) (λ t. rw t (w m g))) i h

  substituted-near : (y : Row) → ((k : ℕ) → k < n → T (fits binary64 (y k))) → ((k : ℕ) → k < n → is_finite (y k) ≡ true)
      → ((k : ℕ) → k < n → is_finite (divided D y k) ≡ true) → (k : ℕ) → k < n → Near (divided D y k) (substituted n D l y k)
  unfolding substituted
  substituted-near y held right finite =
      let z : Row = forward_from D.blocks l n 0 y in
      let forth : (i : ℕ) → SameButSign (y i) (z i) = forward-same y right n 0 y (omega arith) (λ i. inl refl) held in
      back-near (divided D y) finite n (divided D z) (omega arith) (λ i h. divided-near D y z forth i (finite i h))

-- ---- the call

pub identity-divides : IdentityDivides
unfolding solve_check ordered solution_of solve_of vec
identity-divides n f vector passed held zeros finite k h =
    let order : ℕ → ℕ = naturals f.order in
    let D = diagonals_of f.d f.sub f.blocks in
    let l : Mat = view n f.panel in
    let b : Row = vec vector in
    let y : Row = ordered order b in
    let places : check_order n order ≡ Ok tt = search (first-sound, second-sound) in
    let numbers : check_right_side n b ≡ Ok tt = search (first-sound, second-sound) in
    let sound : (i : ℕ) → i < n → order_sound order n i ≡ true = λ i m. first-all (order_sound order n) order_at n i places m in
    let inside : (i : ℕ) → i < n → order i < n = λ i m. sound-inside order n i (sound i m) in
    let right : (i : ℕ) → i < n → is_finite (y i) ≡ true
    = λ i m. first-all (λ j. is_finite (b j)) right_side_at n (order i) numbers (inside i m) in
    let near : Near (divided D y k) (substituted n D l y k)
    = substituted-near n D l (λ i j m t. zero-is (l i j) (zeros i j m t)) y (λ i m. subst T (sym (held (order i) (inside i m))) tt) right finite k h in
    let left : vec (solve_of n n f vector).vector (order k) ≡ solution_of n D l order b (order k)
    = ap (λ (c : Check). vec (solved_after c (tabulate n (solution_of n D l order b)) vector).vector (order k)) passed
    ∙ get_d_tabulate n (order k) (solution_of n D l order b) nan (inside k h) in
    let back : solution_of n D l order b (order k) ≡ substituted n D l y k
    = returned-at order (substituted n D l y) n 0 b k (λ j m. sound-apart order n j k (sound j (omega arith))) (omega arith) (omega arith) in
    ap (λ (v : Float). eq v (divided D y k)) (left ∙ back) ∙ same-equal (divided D y k) (substituted n D l y k) near.same (finite k h)
