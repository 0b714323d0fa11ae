-- Laws of columns taken in turn: what each leaves alone, and that columns which first take from the rows beside them and then together from the rows below
-- leave what they leave one after another. Assumes nothing.
use Prim.Native.Nat.{ℕ, zero, suc, ◌+◌, ◌-◌, ◌*◌, ◌<◌, ◌≤◌, min}
use mathlib.Core.Path.{◌≡◌, refl, sym, ◌∙◌, ap, fun_ext}
use mathlib.Core.List.{List}
use native.Mathlib.Omega.{arith}
use borrow.Author.Tests.{lt-ltb, le-leb, leb-true, leb-false, ltb-true, ltb-false}
use lib.Dec.{ltb, leb}
use lib.Ieee.{Float}
use Rattle.model.specs.Scalar.{◌⊖◌, ◌⊗◌}
use Rattle.model.specs.Matrix.{Row, Mat, view, naturals, with_part}
use Rattle.model.specs.Step.{past_of}
use Rattle.model.proofs.Cases.{test}
use Rattle.model.proofs.Past.{past-above, past_near, past-within}
use Rattle.kernels.specs.Rules.{less_all}
use Rattle.kernels.proofs.Laws.{with_part-before, with_part-in, with_part-past}
use Rattle.kernels.proofs.Rules.{all_same}
use Rattle.forward.specs.Forward.{column_lost, columns_lost, four_lost, ForwardPre, ColumnPre, ColumnsPre, TogetherPre}

module _ (blocks : ℕ → ℕ) (l : Mat) where
  -- ---- one column: rows past its pivot and before the limit, rows before, rows from the limit on

  pub lost-in : (hi k : ℕ) (y : Row) (i : ℕ) → past_of blocks k ≤ i → i < hi → column_lost blocks l hi k y i ≡ y i ⊖ l i k ⊗ y k
  unfolding column_lost with_part
  lost-in hi k y i h g = rw (le-leb (past_of blocks k) i h, lt-ltb i hi g)

  pub lost-before : (hi k : ℕ) (y : Row) (i : ℕ) → i < past_of blocks k → column_lost blocks l hi k y i ≡ y i
  unfolding column_lost
  lost-before hi k y i h = with_part-before y (past_of blocks k) hi _ i h

  pub lost-past : (hi k : ℕ) (y : Row) (i : ℕ) → hi ≤ i → column_lost blocks l hi k y i ≡ y i
  unfolding column_lost
  lost-past hi k y i h = with_part-past y (past_of blocks k) hi _ i h

  -- ---- columns in turn

  pub columns-append : (hi p m k : ℕ) (y : Row) → columns_lost blocks l hi (m + p) k y ≡ columns_lost blocks l hi p (k + m) (columns_lost blocks l hi m k y)
  unfolding columns_lost
  columns-append hi zero m k y = let e : m + zero ≡ m = omega arith in rw e
  columns-append hi (suc p) m k y =
      let e : m + suc p ≡ suc (m + p) = omega arith in
      let a : k + (m + p) ≡ k + m + p = omega arith in
      rw (e, a) (ap (λ (z : Row). column_lost blocks l hi (k + m + p) z) (columns-append hi p m k y))

  -- a row is final once its own column is reached
  columns-final : (hi d u k : ℕ) (y : Row) → columns_lost blocks l hi (u + d) k y (k + u) ≡ columns_lost blocks l hi u k y (k + u)
  unfolding columns_lost
  columns-final hi zero u k y = let e : u + zero ≡ u = omega arith in rw e
  columns-final hi (suc d) u k y =
      let e : u + suc d ≡ suc (u + d) = omega arith in
      rw e (lost-before hi (k + (u + d)) _ (k + u) (omega (arith, past-above blocks (k + (u + d)))) ∙ columns-final hi d u k y)

  -- rows from the limit on
  pub columns-past : (hi c k : ℕ) (y : Row) (i : ℕ) → hi ≤ i → columns_lost blocks l hi c k y i ≡ y i
  unfolding columns_lost
  columns-past hi zero k y i h = refl
  columns-past hi (suc c) k y i h = lost-past hi (k + c) _ i h ∙ columns-past hi c k y i h

  -- rows before a nearer limit do not feel how far it is
  columns-near : (hi n c k : ℕ) (y : Row) (i : ℕ) → hi ≤ n → k + c ≤ hi → i < hi → columns_lost blocks l hi c k y i ≡ columns_lost blocks l n c k y i
  unfolding columns_lost
  columns-near hi n zero k y i h g o = refl
  columns-near hi n (suc c) k y i h g o =
      let S = columns_lost blocks l hi c k y in
      let F = columns_lost blocks l n c k y in
      let here : S i ≡ F i = columns-near hi n c k y i h (omega arith) o in
      let own : S (k + c) ≡ F (k + c) = columns-near hi n c k y (k + c) h (omega arith) (omega arith) in
      test (leb (past_of blocks (k + c)) i)
      (λ t. let p : past_of blocks (k + c) ≤ i = leb-true (past_of blocks (k + c)) i t in
      lost-in hi (k + c) S i p o ∙ rw (here, own) (sym (lost-in n (k + c) F i p (omega arith))))
      (λ t. let p : i < past_of blocks (k + c) = leb-false (past_of blocks (k + c)) i t in
      lost-before hi (k + c) S i p ∙ here ∙ sym (lost-before n (k + c) F i p))

  -- a row below all of them loses their parts in turn; m are their numbers
  columns-below : (n c k : ℕ) (y : Row) (m : ℕ → Float) (i : ℕ) → i < n → k + c + 1 ≤ i → ((u : ℕ) → u < c → m u ≡ columns_lost blocks l n u k y (k + u))
      → columns_lost blocks l n c k y i ≡ less_all c (y i) (λ u. l i (k + u)) m
  unfolding columns_lost less_all
  columns-below n zero k y m i o h e = refl
  columns-below n (suc c) k y m i o h e =
      lost-in n (k + c) _ i (omega (arith, past_near blocks (k + c))) o
      ∙ rw (columns-below n c k y m i o (omega arith) (λ u q. e u (omega arith)), e c (omega arith))

  -- beside them first, then below together
  beside-then-below : (n c k hi : ℕ) (y : Row) → k + c ≤ hi → hi ≤ n → ((i : ℕ) → hi ≤ i → i < n → k + c + 1 ≤ i)
      → with_part (columns_lost blocks l hi c k y) hi n
      (λ i. less_all c (columns_lost blocks l hi c k y i) (λ u. l i (k + u)) (λ u. columns_lost blocks l hi c k y (k + u)))
      ≡ columns_lost blocks l n c k y
  beside-then-below n c k hi y h g below =
      fun_ext λ i.
      test (ltb i hi)
      (λ t. let o : i < hi = ltb-true i hi t in with_part-before T hi n _ i o ∙ columns-near hi n c k y i g h o)
      (λ t. let o : hi ≤ i = ltb-false i hi t in
      test (ltb i n)
      (λ s. let p : i < n = ltb-true i n s in with_part-in T hi n _ i o p
      ∙ all_same c _ _ _ _ _ (columns-past hi c k y i o) (λ u q. refl)
      ∙ sym (columns-below n c k y (λ u. T (k + u)) i p (below i o p) (λ u q. own u q)))
      (λ s. let p : n ≤ i = ltb-false i n s in
      with_part-past T hi n _ i p ∙ columns-past hi c k y i o ∙ sym (columns-past n c k y i p)))
    where
      T : Row
      T = columns_lost blocks l hi c k y

      own : (u : ℕ) → u < c → T (k + u) ≡ columns_lost blocks l n u k y (k + u)
      own u q =
          let e : u + (c - u) ≡ c = omega arith in
          columns-near hi n c k y (k + u) g h (omega arith)
          ∙ ap (λ (d : ℕ). columns_lost blocks l n d k y (k + u)) (sym e) ∙ columns-final n (c - u) u k y

  -- as the code has it: four of them beside, then below
  pub together : (n k hi : ℕ) (y v w : Row) → k + 4 ≤ n → hi ≡ min (k + 5) n → v ≡ columns_lost blocks l hi 4 k y → w ≡ four_lost l hi n k v
      → w ≡ columns_lost blocks l n 4 k y
  unfolding four_lost
  together n k hi y v w h e ev ew = ew ∙ rw ev (beside-then-below n 4 k hi y (omega arith) (omega arith) (λ i o p. omega arith))

-- ---- what the functions ask of each other: m is the vector's length at a turn, or after a call

pub column-pre : (blocks : List ℕ) (n m s e hi k len : ℕ) → ColumnsPre blocks n s e hi len → m ≡ n → k < e → ColumnPre blocks m k hi len
column-pre blocks n m s e hi k len w q h =
    let within : past_of (naturals blocks) k ≤ n = past-within n (naturals blocks) k w.whole.paired (omega (arith, w.columns)) in
    rw q (record {
      bytes = w.whole.bytes;
      column = omega (arith, w.columns);
      past = omega (arith, w.past, past_near (naturals blocks) k);
      rows = w.rows;
      area = w.whole.area;
    })

pub beside-pre : (blocks : List ℕ) (n k hi len : ℕ) → TogetherPre blocks n k len → hi ≡ min (k + 5) n → ColumnsPre blocks n k (k + 4) hi len
beside-pre blocks n k hi len w h = record { whole = w.whole; up = omega arith; columns = w.columns; past = omega arith; rows = omega arith }

pub rest-pre : (blocks : List ℕ) (n s len : ℕ) → ForwardPre blocks n len → s ≤ n → ColumnsPre blocks n s n n len
rest-pre blocks n s len w h = record { whole = w; up = h; columns = omega arith; past = omega arith; rows = omega arith }

-- ---- the loops and the calls

module _ (blocks : ℕ → ℕ) (gs : List Float) (n : ℕ) where
  pub columns-none : (hi s : ℕ) (y : Row) → y ≡ columns_lost blocks (view n gs) hi (s - s) s y
  unfolding columns_lost
  columns-none hi s y = let e : s - s ≡ 0 = omega arith in rw e

  pub columns-step : (m hi s k : ℕ) (x y z : Row) → m ≡ n → s ≤ k → y ≡ columns_lost blocks (view n gs) hi (k - s) s x
      → z ≡ column_lost blocks (view m gs) hi k y → z ≡ columns_lost blocks (view n gs) hi (k + 1 - s) s x
  unfolding columns_lost
  columns-step m hi s k x y z e h p q =
      let a : k + 1 - s ≡ suc (k - s) = omega arith in
      let b : s + (k - s) ≡ k = omega arith in
      rw (a, b) (q ∙ rw (e, p))

  pub four-beside : (m hi k : ℕ) (y z : Row) → m ≡ n → z ≡ columns_lost blocks (view m gs) hi (k + 4 - k) k y → z ≡ columns_lost blocks (view n gs) hi 4 k y
  four-beside m hi k y z e q = let a : k + 4 - k ≡ 4 = omega arith in rw (a, e) at q

  pub four-columns : (m k hi : ℕ) (y v w : Row) → k + 4 ≤ n → hi ≡ min (k + 5) n → m ≡ n → v ≡ columns_lost blocks (view n gs) hi 4 k y
      → w ≡ four_lost (view m gs) hi m k v → w ≡ columns_lost blocks (view n gs) n 4 k y
  four-columns m k hi y v w h e q ev ew = together blocks (view n gs) n k hi y v w h e ev (rw q at ew)

  pub fours-none : (y : Row) → y ≡ columns_lost blocks (view n gs) n (4 * 0) 0 y
  unfolding columns_lost
  fours-none y = refl

  pub fours-step : (m f : ℕ) (x y z : Row) → m ≡ n → y ≡ columns_lost blocks (view n gs) n (4 * f) 0 x → z ≡ columns_lost blocks (view m gs) m 4 (4 * f) y
      → z ≡ columns_lost blocks (view n gs) n (4 * (f + 1)) 0 x
  fours-step m f x y z e p q =
      let a : 0 + 4 * f ≡ 4 * f = omega arith in
      let b : 4 * (f + 1) ≡ 4 * f + 4 = omega arith in
      q ∙ rw (e, p, b) (sym (rw a at (columns-append blocks (view n gs) n 4 (4 * f) 0 x)))

  -- fours, then the rest
  pub all-columns : (m s : ℕ) (x y z : Row) → m ≡ n → s ≤ n → y ≡ columns_lost blocks (view n gs) n s 0 x → z ≡ columns_lost blocks (view m gs) n (n - s) s y
      → z ≡ columns_lost blocks (view n gs) n n 0 x
  all-columns m s x y z e h p q =
      let a : 0 + s ≡ s = omega arith in
      let b : s + (n - s) ≡ n = omega arith in
      q ∙ rw (e, p) (sym (rw (b, a) at (columns-append blocks (view n gs) n (n - s) s 0 x)))
