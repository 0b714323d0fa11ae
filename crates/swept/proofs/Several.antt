-- Several columns a turn: what they make is the sweep of both pivots over them, and a sweep goes on where one ended. Assumes nothing.
use Prim.Native.Nat.{ℕ, zero, suc, ◌+◌, ◌<◌, ◌≤◌}
use mathlib.Core.Path.{◌≡◌, refl, sym, ◌∙◌, ap, fun_ext}
use mathlib.Core.Bool.{Bool, true, false, not, ◌&&◌, true≢false}
use mathlib.Core.List.{List, [], ◌∷◌}
use native.Mathlib.Omega.{arith}
use borrow.Author.Tests.{lt-ltb, le-ltb, le-leb, lt-leb}
use lib.Ieee.{Float, eq}
use Rattle.model.specs.Scalar.{zero_f}
use Rattle.model.specs.Matrix.{Row, Mat, vec, with_column, exchanged_place}
use Rattle.model.specs.Head.{last_of}
use Rattle.model.proofs.Cases.{cmp, and_left, and_right}
use Rattle.model.proofs.Recorded.{last-from, last_block, last-single}
use Rattle.grid.specs.Rules.{column_of, less_times, less_two, less_three, less_columns}
use Rattle.grid.proofs.Laws.{with_column-other}
use Rattle.grid.proofs.Together.{columns-two, columns-three}
use Rattle.several.specs.Several.{list_at, columns_by, less_of, ColumnsPre}
use Rattle.less.specs.Less.{less_at, stepped_twice}
use Rattle.less.proofs.Column.{less-same}
use Rattle.swept.specs.Swept.{strip, swept_both, swept_pair, neither_zero, two_of, three_of, single_at, PairPre}
use Rattle.swept.specs.declared.Pair.{Pair}
use Rattle.swept.proofs.Sweeps.{placed, column-in, strip-before, both-none, both-step, both_end}

-- ---- columns from j on

columns-before : (P : Mat) (j lo hi : ℕ) (R : ℕ → Row) (c a b : ℕ) → b < j → columns_by P j lo hi R c a b ≡ P a b
unfolding columns_by
columns-before P j lo hi R zero a b h = refl
columns-before P j lo hi R (suc c) a b h =
    with_column-other (columns_by P j lo hi R c) (j + c) lo hi (R c) a b (λ e. omega arith) ∙ columns-before P j lo hi R c a b h

columns-past : (P : Mat) (j lo hi : ℕ) (R : ℕ → Row) (c a b : ℕ) → j + c ≤ b → columns_by P j lo hi R c a b ≡ P a b
unfolding columns_by
columns-past P j lo hi R zero a b h = refl
columns-past P j lo hi R (suc c) a b h =
    with_column-other (columns_by P j lo hi R c) (j + c) lo hi (R c) a b (λ e. omega arith) ∙ columns-past P j lo hi R c a b (omega arith)

columns-same : (P : Mat) (j lo hi : ℕ) (R S : ℕ → Row) (c : ℕ) → ((u : ℕ) → u < c → R u ≡ S u) → columns_by P j lo hi R c ≡ columns_by P j lo hi S c
unfolding columns_by
columns-same P j lo hi R S zero h = refl
columns-same P j lo hi R S (suc c) h =
    ap (λ (X : Mat). with_column X (j + c) lo hi (R c)) (columns-same P j lo hi R S c (λ u l. h u (omega arith)))
    ∙ ap (with_column (columns_by P j lo hi S c) (j + c) lo hi) (h c (omega arith))

-- ---- both pivots' parts, column by column

module _ (block1 block2 : Bool) (M I : Mat) (f kq k l : ℕ) where
  -- column b less both, by its multipliers
  abbrev both_at : ℕ → Row
  both_at b = stepped_twice block1 block2 M k l b (I (exchanged_place f kq b) k) (I (exchanged_place f kq b) (k + 1)) (I b l) (I b (l + 1))

-- of a matrix with the same pivots' columns and the same column b
both-at-same : (block1 block2 : Bool) (M X I : Mat) (f kq k l j b : ℕ) → last_of k block1 < j → last_of l block2 < j
    → ((a z : ℕ) → z < j → X a z ≡ M a z) → ((a : ℕ) → X a b ≡ M a b)
    → both_at block1 block2 M I f kq k l b ≡ both_at block1 block2 X I f kq k l b
unfolding stepped_twice
both-at-same block1 block2 M X I f kq k l j b h o same here =
    fun_ext λ a.
    less-same block2 (M a) (X a) l _ _ _ (λ z y w. sym (same a z (omega arith)))
    ∙ ap (less_at block2 (X a) l (I b l) (I b (l + 1)))
    (less-same block1 (M a) (X a) k _ _ _ (λ z y w. sym (same a z (omega arith))) ∙ rw (here a))

both-columns : (block1 block2 : Bool) (M I : Mat) (f kq k l j lo hi c : ℕ) → last_of k block1 < j → last_of l block2 < j
    → columns_by M j lo hi (λ u. both_at block1 block2 M I f kq k l (j + u)) c ≡ swept_both block1 block2 M I f kq k l j (j + c) lo hi
unfolding columns_by
both-columns block1 block2 M I f kq k l j lo hi zero h o =
    both_end block1 block2 M M I f kq k l j j (j + 0) lo hi (omega arith) (omega arith) (both-none block1 block2 M I f kq k l j lo hi)
both-columns block1 block2 M I f kq k l j lo hi (suc c) h o =
    let R : ℕ → Row = λ u. both_at block1 block2 M I f kq k l (j + u) in
    let X : Mat = columns_by M j lo hi R c in
    let more : both_at block1 block2 M I f kq k l (j + c) ≡ both_at block1 block2 X I f kq k l (j + c) =
    both-at-same block1 block2 M X I f kq k l j (j + c) h o (λ a z y. columns-before M j lo hi R c a z y)
    (λ a. columns-past M j lo hi R c a (j + c) (omega arith)) in
    both_end block1 block2 M (columns_by M j lo hi R (suc c)) I f kq k l j (j + c + 1) (j + suc c) lo hi (omega arith) (omega arith)
    (both-step block1 block2 M X (columns_by M j lo hi R (suc c)) I f kq k l j (j + c) lo hi h o (omega arith)
    (both-columns block1 block2 M I f kq k l j lo hi c h o) (ap (with_column X (j + c) lo hi) more))

-- ---- a sweep goes on

strip-join : (M P Q : Mat) (c j r lo hi : ℕ) (F : ℕ → ℕ → Float → Float) → c ≤ j → j ≤ r → P ≡ strip M c j lo hi F → Q ≡ strip P j r lo hi F
    → Q ≡ strip M c r lo hi F
unfolding strip
strip-join M P Q c j r lo hi F h g p q =
    q ∙ rw p (fun_ext λ a. fun_ext λ b.
    cmp b j
    (λ l. rw (lt-leb j b l, lt-ltb b j l, lt-ltb b r (omega arith)))
    (λ e. rw (le-leb j b (omega arith), le-ltb b j (omega arith), le-leb c b (omega arith)))
    (λ l. rw (le-leb j b (omega arith), le-ltb b j (omega arith), le-leb c b (omega arith))))

pub both-join : (block1 block2 : Bool) (M P Q I : Mat) (f kq k l c j r lo hi : ℕ) → last_of k block1 < c → last_of l block2 < c → c ≤ j → j ≤ r
    → P ≡ swept_both block1 block2 M I f kq k l c j lo hi → Q ≡ swept_both block1 block2 P I f kq k l j r lo hi
    → Q ≡ swept_both block1 block2 M I f kq k l c r lo hi
unfolding swept_both column_of
both-join block1 block2 M P Q I f kq k l c j r lo hi h o g u p q =
    let same : (a b : ℕ) → b < c → P a b ≡ M a b = λ a b z. ap (λ (r : ℕ → Float). r a) (strip-before M P c j lo hi _ b z p) in
    strip-join M P Q c j r lo hi _ g u p
    (q ∙ ap (strip P j r lo hi) (fun_ext λ a. fun_ext λ b. fun_ext λ x. less-same block2 (P a) (M a) l _ _ _ (λ b y z. same a b (omega arith))
    ∙ ap (less_at block2 (M a) l (I b l) (I b (l + 1))) (less-same block1 (P a) (M a) k _ _ _ (λ b y z. same a b (omega arith)))))

-- one column, where none was passed before it
pub one-column : (pair : Pair) (M Q I : Mat) (j len len_m : ℕ) → PairPre pair len len_m → pair.f < j
    → Q
    ≡ with_column M j 0 pair.at.rows
    (stepped_twice pair.block1 pair.block2 M 0 pair.l j (I (exchanged_place pair.f pair.kq j) 0) (I (exchanged_place pair.f pair.kq j) 1) (I j pair.l)
    (I j (pair.l + 1)))
    → Q ≡ swept_pair pair M I j (j + 1)
one-column pair M Q I j len len_m pre h q =
    both-step pair.block1 pair.block2 M M Q I pair.f pair.kq 0 pair.l j j 0 pair.at.rows
    (omega (arith, pre.next, pre.last, last-from pair.l pair.block2)) (omega (arith, pre.last)) (omega arith)
    (both-none pair.block1 pair.block2 M I pair.f pair.kq 0 pair.l j 0 pair.at.rows) q

-- ---- no multiplier of a 1x1 is zero

singles-at : (M : Mat) (l b : ℕ) (m1 m2 m3 m4 : Float) → l ≡ 1 → eq m1 zero_f ≡ false → eq m3 zero_f ≡ false
    → less_two (column_of M b) (column_of M 0) (column_of M 1) m1 m3 ≡ stepped_twice false false M 0 l b m1 m2 m3 m4
unfolding less_two column_of stepped_twice less_at
singles-at M l b m1 m2 m3 m4 e h g = fun_ext λ a. rw (e, h, g)

single-block-at : (M : Mat) (l b : ℕ) (m1 m2 m3 m4 : Float) → l ≡ 1 → eq m1 zero_f ≡ false
    → less_three (column_of M b) (column_of M 0) (column_of M 1) (column_of M 2) m1 m3 m4 ≡ stepped_twice false true M 0 l b m1 m2 m3 m4
unfolding less_three less_two less_times column_of stepped_twice less_at
single-block-at M l b m1 m2 m3 m4 e h = fun_ext λ a. rw (e, h)

block-single-at : (M : Mat) (l b : ℕ) (m1 m2 m3 m4 : Float) → l ≡ 2 → eq m3 zero_f ≡ false
    → less_three (column_of M b) (column_of M 0) (column_of M 1) (column_of M 2) m1 m2 m3 ≡ stepped_twice true false M 0 l b m1 m2 m3 m4
unfolding less_three less_two less_times column_of stepped_twice less_at
block-single-at M l b m1 m2 m3 m4 e h = fun_ext λ a. rw (e, h)

not-true : (s : Bool) → not s ≡ true → s ≡ false
not-true true h = absurd (true≢false (sym h))
not-true false h = refl

neither-first : (a b : Float) → neither_zero a b ≡ true → eq a zero_f ≡ false
unfolding neither_zero
neither-first a b h = not-true (eq a zero_f) (and_left (not (eq a zero_f)) (not (eq b zero_f)) h)

neither-second : (a b : Float) → neither_zero a b ≡ true → eq b zero_f ≡ false
unfolding neither_zero
neither-second a b h = not-true (eq b zero_f) (and_right (not (eq a zero_f)) (not (eq b zero_f)) h)

mixed-reach : (block1 block2 : Bool) (l f : ℕ) → block2 ≡ not block1 → l ≡ last_of 0 block1 + 1 → f ≡ last_of l block2 → 2 ≤ f
mixed-reach true block2 l f k e h = omega (arith, last_block 0 true refl, last-from l block2)
mixed-reach false block2 l f k e h = omega (arith, last-single 0 false refl, last_block l block2 k)

-- ---- by the multipliers that were read

-- from the columns' rules to the sweep
swept-by : (block1 block2 : Bool) (M Q I : Mat) (f kq k l j lo hi c : ℕ) (R : ℕ → Row) → l ≡ last_of k block1 + 1 → f ≡ last_of l block2 → f < j
    → ((u : ℕ) → u < c → R u ≡ both_at block1 block2 M I f kq k l (j + u)) → Q ≡ columns_by M j lo hi R c
    → Q ≡ swept_both block1 block2 M I f kq k l j (j + c) lo hi
swept-by block1 block2 M Q I f kq k l j lo hi c R e g h each q =
    q ∙ columns-same M j lo hi R (λ u. both_at block1 block2 M I f kq k l (j + u)) c each
    ∙ both-columns block1 block2 M I f kq k l j lo hi c (omega (arith, last-from l block2)) (omega arith)

module _ (M I : Mat) (f kq l : ℕ) where
  -- by two 1x1s
  singles-rule : l ≡ last_of 0 false + 1 → (b : ℕ) (m : List Float) → m ≡ two_of I f kq l b → neither_zero (vec m 0) (vec m 1) ≡ true
      → less_columns 2 M 0 b (vec m) ≡ both_at false false M I f kq 0 l b
  unfolding two_of vec
  singles-rule next b m e z =
      columns-two M 0 b (vec m)
      ∙ singles-at M l b (vec m 0) (I (exchanged_place f kq b) 1) (vec m 1) (I b (l + 1)) (omega (arith, last-single 0 false refl)) (neither-first _ _ z)
      (neither-second _ _ z)
      ∙ rw e

  four-rules : l ≡ last_of 0 false + 1 → (j : ℕ) (a b c d : List Float) → a ≡ two_of I f kq l j
      → b ≡ two_of I f kq l (j + 1) → c ≡ two_of I f kq l (j + 2) → d ≡ two_of I f kq l (j + 3) → neither_zero (vec a 0) (vec a 1) ≡ true
      → neither_zero (vec b 0) (vec b 1) ≡ true → neither_zero (vec c 0) (vec c 1) ≡ true → neither_zero (vec d 0) (vec d 1) ≡ true → (u : ℕ) → u < 4
      → less_of 2 M j (list_at (a ∷ b ∷ c ∷ d ∷ [])) u ≡ both_at false false M I f kq 0 l (j + u)
  unfolding less_of list_at
  four-rules next j a b c d ea eb ec ed za zb zc zd zero h =
      let at : j + 0 ≡ j = omega arith in rw at (singles-rule next j a ea za)
  four-rules next j a b c d ea eb ec ed za zb zc zd (suc zero) h = singles-rule next (j + 1) b eb zb
  four-rules next j a b c d ea eb ec ed za zb zc zd (suc (suc zero)) h = singles-rule next (j + 2) c ec zc
  four-rules next j a b c d ea eb ec ed za zb zc zd (suc (suc (suc zero))) h = singles-rule next (j + 3) d ed zd
  four-rules next j a b c d ea eb ec ed za zb zc zd (suc (suc (suc (suc u)))) h = absurd (omega arith)

  -- by a block and a 1x1
  mixed-rule : (block1 block2 : Bool) → block2 ≡ not block1 → l ≡ last_of 0 block1 + 1 → (b : ℕ) (m : List Float) → m ≡ three_of block1 I f kq l b
      → eq (vec m (single_at block1)) zero_f ≡ false → less_columns 3 M 0 b (vec m) ≡ both_at block1 block2 M I f kq 0 l b
  unfolding three_of single_at vec
  mixed-rule true block2 t next b m e z =
      rw t (columns-three M 0 b (vec m)
      ∙ block-single-at M l b (vec m 0) (vec m 1) (vec m 2) (I b (l + 1)) (omega (arith, last_block 0 true refl)) z ∙ rw e)
  mixed-rule false block2 t next b m e z =
      rw t (columns-three M 0 b (vec m)
      ∙ single-block-at M l b (vec m 0) (I (exchanged_place f kq b) 1) (vec m 1) (vec m 2) (omega (arith, last-single 0 false refl)) z ∙ rw e)

  mixed-rules : (block1 block2 : Bool) → block2 ≡ not block1 → l ≡ last_of 0 block1 + 1 → (j : ℕ) (a b : List Float) → a ≡ three_of block1 I f kq l j
      → b ≡ three_of block1 I f kq l (j + 1) → neither_zero (vec a (single_at block1)) (vec b (single_at block1)) ≡ true → (u : ℕ) → u < 2
      → less_of 3 M j (list_at (a ∷ b ∷ [])) u ≡ both_at block1 block2 M I f kq 0 l (j + u)
  unfolding less_of list_at
  mixed-rules block1 block2 t next j a b ea eb z zero h =
      let at : j + 0 ≡ j = omega arith in rw at (mixed-rule block1 block2 t next j a ea (neither-first _ _ z))
  mixed-rules block1 block2 t next j a b ea eb z (suc zero) h = mixed-rule block1 block2 t next (j + 1) b eb (neither-second _ _ z)
  mixed-rules block1 block2 t next j a b ea eb z (suc (suc u)) h = absurd (omega arith)

module _ (pair : Pair) (M Q I : Mat) (j len len_m : ℕ) (pre : PairPre pair len len_m) (past : pair.f < j) where
  pub four-done : {a b c d : List Float} {s t v w : Bool} → pair.block1 ≡ false → pair.block2 ≡ false → a ≡ two_of I pair.f pair.kq pair.l j
      → b ≡ two_of I pair.f pair.kq pair.l (j + 1) → c ≡ two_of I pair.f pair.kq pair.l (j + 2) → d ≡ two_of I pair.f pair.kq pair.l (j + 3)
      → s ≡ neither_zero (vec a 0) (vec a 1) → t ≡ neither_zero (vec b 0) (vec b 1) → v ≡ neither_zero (vec c 0) (vec c 1)
      → w ≡ neither_zero (vec d 0) (vec d 1) → s && (t && (v && w)) ≡ true
      → Q ≡ columns_by M j 0 pair.at.rows (less_of 2 M j (list_at (a ∷ b ∷ c ∷ d ∷ []))) 4 → Q ≡ swept_pair pair M I j (j + 4)
  four-done {a} {b} {c} {d} {s} {t} {v} {w} k1 k2 ea eb ec ed es et ev ew all q =
      let rest : t && (v && w) ≡ true = and_right s (t && (v && w)) all in
      let last : v && w ≡ true = and_right t (v && w) rest in
      let next : pair.l ≡ last_of 0 false + 1 = pre.next ∙ ap (λ (b : Bool). last_of 0 b + 1) k1 in
      let end : pair.f ≡ last_of pair.l false = pre.last ∙ ap (last_of pair.l) k2 in
      rw (k1, k2) (swept-by false false M Q I pair.f pair.kq 0 pair.l j 0 pair.at.rows 4 _ next end past
      (four-rules M I pair.f pair.kq pair.l next j a b c d ea eb ec ed
      (sym es ∙ and_left s (t && (v && w)) all) (sym et ∙ and_left t (v && w) rest)
      (sym ev ∙ and_left v w last) (sym ew ∙ and_right v w last)) q)

  pub mixed-done : {a b : List Float} {s : Bool} → pair.block2 ≡ not pair.block1 → a ≡ three_of pair.block1 I pair.f pair.kq pair.l j
      → b ≡ three_of pair.block1 I pair.f pair.kq pair.l (j + 1) → (one : ℕ) → one ≡ single_at pair.block1 → s ≡ neither_zero (vec a one) (vec b one)
      → s ≡ true → Q ≡ columns_by M j 0 pair.at.rows (less_of 3 M j (list_at (a ∷ b ∷ []))) 2 → Q ≡ swept_pair pair M I j (j + 2)
  mixed-done {a} {b} {s} k ea eb one eo es z q =
      swept-by pair.block1 pair.block2 M Q I pair.f pair.kq 0 pair.l j 0 pair.at.rows 2 _ pre.next pre.last past
      (mixed-rules M I pair.f pair.kq pair.l pair.block1 pair.block2 k pre.next j a b ea eb (rw eo at (sym es ∙ z))) q

-- ---- what the passes ask

module _ {pair : Pair} {j len len_m : ℕ} (pre : PairPre pair len len_m) (past : pair.f < j) where
  columns-pre : (c z : ℕ) → c ≤ pair.f → j + z < pair.at.columns → ColumnsPre pair.at.nrow pair.at.rows c j (j + z) len
  columns-pre c z u g = record { col = column-in pre.frame (j + z) g; past = omega arith; height = pre.frame.height }

  pub four-columns : j + 4 ≤ pair.at.columns → ColumnsPre pair.at.nrow pair.at.rows 1 j (j + 3) len
  four-columns g = let p = placed pre in columns-pre 1 3 (omega arith) (omega arith)

  pub mixed-columns : pair.block2 ≡ not pair.block1 → j + 2 ≤ pair.at.columns → ColumnsPre pair.at.nrow pair.at.rows 2 j (j + 1) len
  mixed-columns k g = columns-pre 2 1 (mixed-reach pair.block1 pair.block2 pair.l pair.f k pre.next pre.last) (omega arith)
