-- Laws of the steps in turn: what each makes of the first n numbers follows from the first n numbers alone, so that the steps make the definition's solution.
-- Assumes nothing.
use Prim.Native.Nat.{ℕ, zero, suc, ◌+◌, ◌-◌, ◌<◌, ◌≤◌}
use mathlib.Core.Path.{◌≡◌, refl, ◌∙◌, ap}
use mathlib.Core.Bool.{◌&&◌}
use mathlib.Core.List.{List}
use native.Mathlib.Omega.{arith}
use borrow.Author.Tests.{eqb-true}
use lib.Dec.{ltb, eqb}
use lib.Ieee.{Float}
use Rattle.model.specs.Scalar.{◌⊗◌}
use Rattle.model.specs.Matrix.{Row, Mat, view, naturals, put, with_part}
use Rattle.model.specs.Step.{Diagonals, diagonals_of, begins}
use Rattle.model.specs.Kept.{Paired}
use Rattle.model.specs.Solve.{Factor, forward_at, forward_from, divided, back_at, back_from, substituted, ordered, returned_from, solution_of}
use Rattle.model.proofs.Cases.{test}
use Rattle.model.proofs.Terms.{earlier-there, later-there}
use Rattle.kernels.proofs.Laws.{with_part-in}
use Rattle.solve.specs.Call.{through_factor, SubstitutePre}

-- the same at the first n places
abbrev Agree : ℕ → Row → Row → Type 0
Agree n f g = (i : ℕ) → i < n → f i ≡ g i

agree-put : (n k : ℕ) (f g : Row) (v w : Float) → Agree n f g → v ≡ w → Agree n (put f k v) (put g k w)
unfolding put
agree-put n k f g v w h e i o = test (eqb i k) (λ t. rw t e) (λ t. rw t (h i o))

-- what a step writes at the first n places
part-agree : (n : ℕ) (f N : Row) → Agree n (with_part f 0 n N) N
part-agree n f N i o = with_part-in f 0 n N i (omega arith) o

module _ (n : ℕ) (D : Diagonals) (l : Mat) (w : Paired n D.blocks) where
  forward-agree : (m k : ℕ) (y z : Row) → k + m ≤ n → Agree n y z → Agree n (forward_from D.blocks l m k y) (forward_from D.blocks l m k z)
  unfolding forward_from
  forward-agree zero k y z h a = a
  forward-agree (suc m) k y z h a =
      let here : forward_at D.blocks l y k ≡ forward_at D.blocks l z k
      = rw (a k (omega arith)) (earlier-there _ _ _ k (z k) (λ j o t. ap (λ (v : Float). l k j ⊗ v) (a j (omega arith)))) in
      forward-agree m (k + 1) _ _ (omega arith) (agree-put n k y z _ _ a here)

  divided-agree : (y z : Row) → Agree n y z → Agree n (divided D y) (divided D z)
  unfolding divided
  divided-agree y z a k o =
      test (begins D.blocks k)
      (λ t. let next : y (k + 1) ≡ z (k + 1) = a (k + 1) (w.room k o (eqb-true (D.blocks k) 1 t)) in rw (t, a k o, next))
      (λ t. test (ltb 0 k && begins D.blocks (k - 1))
      (λ u. let before : y (k - 1) ≡ z (k - 1) = a (k - 1) (omega arith) in rw (t, u, a k o, before))
      (λ u. rw (t, u, a k o)))

  back-agree : (m : ℕ) (x z : Row) → m ≤ n → Agree n x z → Agree n (back_from D.blocks l n m x) (back_from D.blocks l n m z)
  unfolding back_from
  back-agree zero x z h a = a
  back-agree (suc m) x z h a =
      let here : back_at D.blocks l n x m ≡ back_at D.blocks l n z m
      = rw (a m (omega arith)) (later-there _ _ _ (n - (m + 1)) (m + 1) (z m) (λ i o p t. ap (λ (v : Float). l i m ⊗ v) (a i (omega arith)))) in
      back-agree m _ _ (omega arith) (agree-put n m x z _ _ a here)

returned-agree : (n : ℕ) (order : ℕ → ℕ) (x z : Row) → Agree n x z → (m k : ℕ) (b : Row) → k + m ≤ n → returned_from order x m k b ≡ returned_from order z m k b
unfolding returned_from
returned-agree n order x z a zero k b h = refl
returned-agree n order x z a (suc m) k b h =
    ap (λ (v : Float). returned_from order x m (k + 1) (put b (order k) v)) (a k (omega arith)) ∙ returned-agree n order x z a m (k + 1) _ (omega arith)

-- y0 is what the work holds on entry, y1 in the recorded order, y2 after its way through the factor
pub steps-solve : (n : ℕ) (D : Diagonals) (l : Mat) (order : ℕ → ℕ) (b c y0 y1 y2 : Row) → Paired n D.blocks → y1 ≡ with_part y0 0 n (ordered order b)
    → y2 ≡ through_factor n D l y1 → c ≡ returned_from order y2 n 0 b → c ≡ solution_of n D l order b
unfolding solution_of substituted through_factor
steps-solve n D l order b c y0 y1 y2 w e1 e2 e3 =
    let z = forward_from D.blocks l n 0 y1 in
    let own = forward_from D.blocks l n 0 (ordered order b) in
    let one : Agree n y1 (ordered order b) = λ i o. ap (λ (f : Row). f i) e1 ∙ part-agree n y0 (ordered order b) i o in
    let two : Agree n z own = forward-agree n D l w n 0 y1 (ordered order b) (omega arith) one in
    let three : Agree n (with_part z 0 n (divided D z)) (divided D own) = λ i o. part-agree n z (divided D z) i o ∙ divided-agree n D l w z own two i o in
    let four : Agree n y2 (back_from D.blocks l n n (divided D own))
    = λ i o. ap (λ (f : Row). f i) e2 ∙ back-agree n D l w n _ (divided D own) (omega arith) three i o in
    e3 ∙ returned-agree n order y2 _ four n 0 b (omega arith)

-- the same with the work's lengths as the calls have them
pub lists-solve : (f : Factor) (len n m p : ℕ) (b c y0 y1 y2 : Row) → SubstitutePre f len n → y1 ≡ with_part y0 0 n (ordered (naturals f.order) b) → m ≡ n
    → y2 ≡ through_factor m (diagonals_of f.d f.sub f.blocks) (view m f.panel) y1 → p ≡ n → c ≡ returned_from (naturals f.order) y2 p 0 b
    → c ≡ solution_of n (diagonals_of f.d f.sub f.blocks) (view n f.panel) (naturals f.order) b
lists-solve f len n m p b c y0 y1 y2 w e1 em e2 ep e3 =
    steps-solve n (diagonals_of f.d f.sub f.blocks) (view n f.panel) (naturals f.order) b c y0 y1 y2 w.paired e1 (rw em at e2) (rw ep at e3)

pub through : (D : Diagonals) (gs : List Float) (n m p : ℕ) (x y z v : Row) → y ≡ forward_from D.blocks (view n gs) n 0 x → m ≡ n
    → z ≡ with_part y 0 m (divided D y) → p ≡ n → v ≡ back_from D.blocks (view p gs) p p z → v ≡ through_factor n D (view n gs) x
unfolding through_factor
through D gs n m p x y z v e1 em e2 ep e3 = e3 ∙ rw (ep, e2, em, e1)
