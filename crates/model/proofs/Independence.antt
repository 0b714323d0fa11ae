-- Demand 3 holds: the definition's head run takes nothing but the head, and a tail row's factor row nothing but the panels and the row. Assumes nothing.
use mathlib.Core.Path.{◌≡◌, refl, sym, ◌∙◌, ap, fun_ext}
use mathlib.Core.Bool.{Bool, true, false, cond, ◌&&◌}
use mathlib.Core.List.{List}
use Prim.Native.Nat.{ℕ, ◌+◌, ◌-◌, ◌*◌, ◌≤◌, ◌<◌}
use native.Mathlib.Omega.{arith}
use borrow.Author.Tests.{lt-ltb, le-ltb, leb-true, ltb-true}
use lib.Dec.{leb, ltb}
use lib.ListN.{length, replicate, get_or-replicate}
use lib.Ieee.{Float, nan}
use Rattle.model.specs.Scalar.{zero_f}
use Rattle.model.specs.Matrix.{Row, Mat, view, naturals, head_of, row_of, tabulate}
use Rattle.model.specs.Panel.{Panel}
use Rattle.model.specs.Head.{State}
use Rattle.model.specs.Factor.{pivoting_of, Outcome, HeadAnswer, fails, stands, head_run_of, head_answer_of, factor_row_of, mark_of, factor_entry}
use Rattle.model.specs.Factor.{report_of, after_head}
use Rattle.model.specs.Answer.{accepted}
use Rattle.model.specs.Independence.{Call, outcome_of, Alike, SameHead, SameInput, SameTailRow, TailRowsSteerNothing}
use Rattle.model.specs.declared.Pivoting.{Pivoting}
use Rattle.model.specs.declared.Refusal.{Refusal}
use Rattle.model.proofs.Tabulated.{off-lt, get_d_tabulate, view-column_major}
use Rattle.model.proofs.Cases.{and_left, and_right}
use Rattle.model.proofs.Entry.{Passed, passed, past-entry}

-- ---- the head and a row are cut before anything looks at them

-- two numbers that agree wherever they are looked at
pub where-same : (t : Bool) (x y z : Float) → (t ≡ true → x ≡ y) → cond t x z ≡ cond t y z
where-same true x y z h = h refl
where-same false x y z h = refl

-- equal lower triangles of n rows are one head
pub same_head : (n : ℕ) (a b : Mat) → ((i j : ℕ) → j ≤ i → i < n → a i j ≡ b i j) → head_of n a ≡ head_of n b
unfolding head_of
same_head n a b h =
    fun_ext λ i. fun_ext λ j. where-same (leb j i && ltb i n) (a i j) (b i j) zero_f (λ t.
    h i j (leb-true j i (and_left (leb j i) (ltb i n) t)) (ltb-true i n (and_right (leb j i) (ltb i n) t)))

-- rows that are equal in n columns are one row
pub same_row : (n : ℕ) (r s : Row) → ((j : ℕ) → j < n → r j ≡ s j) → row_of n r ≡ row_of n s
unfolding row_of
same_row n r s h = fun_ext λ j. where-same (ltb j n) (r j) (s j) zero_f (λ t. h j (ltb-true j n t))

-- the head's answer takes nothing but the head
pub head_of-answer : (how : Pivoting) (n nb : ℕ) (a b : Mat) → head_of n a ≡ head_of n b → head_answer_of how n nb a ≡ head_answer_of how n nb b
unfolding head_answer_of head_run_of
head_of-answer how n nb a b e = rw e

-- a factor row takes nothing but the n columns of its row
pub row_of-factor : (n : ℕ) (ps : List Panel) (r s : Row) → row_of n r ≡ row_of n s → factor_row_of n ps r ≡ factor_row_of n ps s
unfolding factor_row_of
row_of-factor n ps r s e = rw e

-- ---- what stands where

-- a panel of zeros, at a row and a column
pub view-zeros : (n c len : ℕ) → len ≡ n * c → (i j : ℕ) → i < n → j < c → view n (replicate len zero_f) i j ≡ zero_f
unfolding view
view-zeros n c len e i j hi hj = rw (lt-ltb i n hi) (get_or-replicate len (i + j * n) zero_f nan (omega (arith, off-lt n c i j hi hj)))

-- a list of zeros, at a place
pub bytes-zeros : (n len : ℕ) → len ≡ n → (k : ℕ) → k < n → naturals (replicate len 0) k ≡ 0
unfolding naturals
bytes-zeros n len e k h = get_or-replicate len k 0 0 (omega arith)

-- a tabulated list, at a place
pub bytes-tabulate : (n k : ℕ) (f : ℕ → ℕ) → k < n → naturals (tabulate n f) k ≡ f k
unfolding naturals
bytes-tabulate n k f h = get_d_tabulate n k f 0 h

-- an entry of the head's lower triangle is the state's
pub entry-lower : (n : ℕ) (s : State) (ps : List Panel) (a : Mat) (i j : ℕ) → j ≤ i → i < n → factor_entry n s ps a i j ≡ s.a i j
unfolding factor_entry
entry-lower n s ps a i j h l = rw (le-ltb i j h, lt-ltb i n l)

-- an entry of a tail row is its factor row's
pub entry-tail : (n : ℕ) (s : State) (ps : List Panel) (a : Mat) (i j : ℕ) → n ≤ i → j < n → factor_entry n s ps a i j ≡ factor_row_of n ps (a i) j
unfolding factor_entry
entry-tail n s ps a i j h l = rw (le-ltb i j (omega arith), le-ltb i n h)

-- ---- a call by its head's answer

-- the input as a matrix
abbrev pub given : Call → Mat
given z = view z.settings.nrow z.input

-- what it leaves, by its head's answer
abbrev pub left_by : HeadAnswer → Call → Outcome
left_by h z = after_head h z.settings (given z) z.lent

-- what the entry checks leave of a call
abbrev pub PassedCall : Call → Type 0
PassedCall z = Passed z.settings z.input z.lent

-- row i and column j of its panel where it fails
pub panel-fails : (z : Call) (pz : PassedCall z) (r : Refusal) → outcome_of z ≡ left_by (fails r) z → (i j : ℕ) → i < z.settings.nrow → j < z.settings.ncol
    → view z.settings.nrow (outcome_of z).buffers.panel i j ≡ zero_f
panel-fails z pz r e i j h l =
    ap (λ (o : Outcome). view z.settings.nrow o.buffers.panel i j) e
    ∙ view-zeros z.settings.nrow z.settings.ncol (length z.lent.panel) pz.lengths.panel i j h l

-- the same where it stands: an entry of the factor
pub panel-stands : (z : Call) (s : State) (ps : List Panel) → outcome_of z ≡ left_by (stands s ps) z → (i j : ℕ) → i < z.settings.nrow → j < z.settings.ncol
    → view z.settings.nrow (outcome_of z).buffers.panel i j ≡ factor_entry z.settings.ncol s ps (given z) i j
panel-stands z s ps e i j h l =
    ap (λ (o : Outcome). view z.settings.nrow o.buffers.panel i j) e
    ∙ view-column_major z.settings.nrow z.settings.ncol (factor_entry z.settings.ncol s ps (given z)) i j h l

-- place k of its order where it fails
pub order-fails : (z : Call) (pz : PassedCall z) (r : Refusal) → outcome_of z ≡ left_by (fails r) z → (k : ℕ) → k < z.settings.nrow
    → naturals (outcome_of z).buffers.order k ≡ 0
order-fails z pz r e k l =
    ap (λ (o : Outcome). naturals o.buffers.order k) e ∙ bytes-zeros z.settings.nrow (length z.lent.order) pz.lengths.order k l

-- the same where it stands: the state's order
pub order-stands : (z : Call) (s : State) (ps : List Panel) → outcome_of z ≡ left_by (stands s ps) z → (k : ℕ) → k < z.settings.nrow
    → naturals (outcome_of z).buffers.order k ≡ s.pivots.notes.order k
order-stands z s ps e k l = ap (λ (o : Outcome). naturals o.buffers.order k) e ∙ bytes-tabulate z.settings.nrow k s.pivots.notes.order l

-- the mark of tail row q where it fails
pub mark-fails : (z : Call) (pz : PassedCall z) (r : Refusal) → outcome_of z ≡ left_by (fails r) z → (q : ℕ) → z.settings.ncol ≤ q → q < z.settings.nrow
    → naturals (outcome_of z).buffers.marks (q - z.settings.ncol) ≡ 0
mark-fails z pz r e q h l =
    ap (λ (o : Outcome). naturals o.buffers.marks (q - z.settings.ncol)) e
    ∙ bytes-zeros (z.settings.nrow - z.settings.ncol) (length z.lent.marks) pz.lengths.marks (q - z.settings.ncol) (omega arith)

-- the same where it stands: the mark of its factor row
pub mark-stands : (z : Call) (s : State) (ps : List Panel) → outcome_of z ≡ left_by (stands s ps) z → (q : ℕ) → z.settings.ncol ≤ q → q < z.settings.nrow
    → naturals (outcome_of z).buffers.marks (q - z.settings.ncol) ≡ mark_of z.settings.ncol (factor_row_of z.settings.ncol ps (given z q))
mark-stands z s ps e q h l =
    ap (λ (o : Outcome). naturals o.buffers.marks (q - z.settings.ncol)) e
    ∙ bytes-tabulate (z.settings.nrow - z.settings.ncol) (q - z.settings.ncol) (λ i. mark_of z.settings.ncol (factor_row_of z.settings.ncol ps (given z (z.settings.ncol + i)))) (omega arith)
    ∙ ap (λ (i : ℕ). mark_of z.settings.ncol (factor_row_of z.settings.ncol ps (given z i))) (omega arith)

-- ---- the two calls

-- a part of what two calls leave, from what each leaves
pub through : {A : Type 0} (f : Outcome → A) (o p u v : Outcome) → o ≡ u → p ≡ v → f u ≡ f v → f o ≡ f p
through f o p u v e g h = ap f e ∙ h ∙ sym (ap f g)

module _ (x y : Call) (px : PassedCall x) (py : PassedCall y) (cols : x.settings.ncol ≡ y.settings.ncol) where
  zeros-same : (m n : ℕ) → m ≡ x.settings.ncol → n ≡ y.settings.ncol → replicate m zero_f ≡ replicate n zero_f
  zeros-same m n e g = ap (λ (k : ℕ). replicate k zero_f) (e ∙ cols ∙ sym g)

  bytes_same : (m n : ℕ) → m ≡ x.settings.ncol → n ≡ y.settings.ncol → replicate {A = ℕ} m 0 ≡ replicate {A = ℕ} n 0
  bytes_same m n e g = ap (λ (k : ℕ). replicate {A = ℕ} k 0) (e ∙ cols ∙ sym g)

  -- two calls whose heads have one answer leave the same of their heads
  pub same_outcome : (h : HeadAnswer) → outcome_of x ≡ left_by h x → outcome_of y ≡ left_by h y → SameHead x y
  same_outcome (fails r) ex ey = record {
    answer = through (λ (o : Outcome). o.answer) _ _ _ _ ex ey refl;
    d = through (λ (o : Outcome). o.buffers.d) _ _ _ _ ex ey (zeros-same _ _ px.lengths.d py.lengths.d);
    sub = through (λ (o : Outcome). o.buffers.sub) _ _ _ _ ex ey (zeros-same _ _ px.lengths.sub py.lengths.sub);
    blocks = through (λ (o : Outcome). o.buffers.blocks) _ _ _ _ ex ey (bytes_same _ _ px.lengths.blocks py.lengths.blocks);
    lifts = through (λ (o : Outcome). o.buffers.lifts) _ _ _ _ ex ey (bytes_same _ _ px.lengths.lifts py.lengths.lifts);
    amounts = through (λ (o : Outcome). o.buffers.amounts) _ _ _ _ ex ey (zeros-same _ _ px.lengths.amounts py.lengths.amounts);
    tests = through (λ (o : Outcome). o.buffers.tests) _ _ _ _ ex ey (bytes_same _ _ px.lengths.tests py.lengths.tests);
    order = λ k l. order-fails x px r ex k (omega (arith, px.head)) ∙ sym (order-fails y py r ey k (omega (arith, py.head)));
    lower = λ i j h l.
        panel-fails x px r ex i j (omega (arith, px.head)) (omega arith)
        ∙ sym (panel-fails y py r ey i j (omega (arith, py.head)) (omega arith));
  }
  same_outcome (stands s ps) ex ey = record {
    answer = through (λ (o : Outcome). o.answer) _ _ _ _ ex ey (ap (λ (n : ℕ). accepted (report_of n s)) cols);
    d = through (λ (o : Outcome). o.buffers.d) _ _ _ _ ex ey (ap (λ (n : ℕ). tabulate n s.pivots.diagonals.d) cols);
    sub = through (λ (o : Outcome). o.buffers.sub) _ _ _ _ ex ey (ap (λ (n : ℕ). tabulate n s.pivots.diagonals.sub) cols);
    blocks = through (λ (o : Outcome). o.buffers.blocks) _ _ _ _ ex ey (ap (λ (n : ℕ). tabulate n s.pivots.diagonals.blocks) cols);
    lifts = through (λ (o : Outcome). o.buffers.lifts) _ _ _ _ ex ey (ap (λ (n : ℕ). tabulate n s.pivots.notes.lifts) cols);
    amounts = through (λ (o : Outcome). o.buffers.amounts) _ _ _ _ ex ey (ap (λ (n : ℕ). tabulate n s.pivots.notes.amounts) cols);
    tests = through (λ (o : Outcome). o.buffers.tests) _ _ _ _ ex ey (ap (λ (n : ℕ). tabulate n s.pivots.notes.tests) cols);
    order = λ k l. order-stands x s ps ex k (omega (arith, px.head)) ∙ sym (order-stands y s ps ey k (omega (arith, py.head)));
    lower = λ i j h l.
        panel-stands x s ps ex i j (omega (arith, px.head)) (omega arith) ∙ entry-lower x.settings.ncol s ps (given x) i j h l
        ∙ sym (panel-stands y s ps ey i j (omega (arith, py.head)) (omega arith) ∙ entry-lower y.settings.ncol s ps (given y) i j h (omega arith));
  }

  -- and tail rows that were given alike get the same factor row and mark
  pub same-tail-row : (h : HeadAnswer) → outcome_of x ≡ left_by h x → outcome_of y ≡ left_by h y → (p q : ℕ) → SameInput x y p q → SameTailRow x y p q
  same-tail-row (fails r) ex ey p q i = record {
    row = λ j l. panel-fails x px r ex p j i.in_x l ∙ sym (panel-fails y py r ey q j i.in_y (omega arith));
    mark = mark-fails x px r ex p i.tail_of_x i.in_x ∙ sym (mark-fails y py r ey q i.tail_of_y i.in_y);
  }
  same-tail-row (stands s ps) ex ey p q i =
      let rows : factor_row_of x.settings.ncol ps (given x p) ≡ factor_row_of y.settings.ncol ps (given y q) =
      row_of-factor x.settings.ncol ps (given x p) (given y q) (same_row x.settings.ncol (given x p) (given y q) i.bits)
      ∙ ap (λ (n : ℕ). factor_row_of n ps (given y q)) cols in
      record {
        row = λ j l.
            panel-stands x s ps ex p j i.in_x l ∙ entry-tail x.settings.ncol s ps (given x) p j i.tail_of_x l
            ∙ ap (λ (r : Row). r j) rows
            ∙ sym (panel-stands y s ps ey q j i.in_y (omega arith) ∙ entry-tail y.settings.ncol s ps (given y) q j i.tail_of_y (omega arith));
        mark =
            mark-stands x s ps ex p i.tail_of_x i.in_x ∙ ap (λ (r : Row). mark_of x.settings.ncol r) rows
            ∙ ap (λ (n : ℕ). mark_of n (factor_row_of y.settings.ncol ps (given y q))) cols
            ∙ sym (mark-stands y s ps ey q i.tail_of_y i.in_y);
      }

-- the head's answer of a call past the entry checks
abbrev pub head_of_call : Call → HeadAnswer
head_of_call z = head_answer_of (pivoting_of z.settings) z.settings.ncol z.settings.nb (given z)

-- calls that are alike steer their pivots alike, and have one head's answer
pub same-pivoting : (x y : Call) → Alike x y → pivoting_of x.settings ≡ pivoting_of y.settings
same-pivoting x y a = rw (a.mode, a.limit)

pub same_answer : (x y : Call) → Alike x y → head_of_call x ≡ head_of_call y
same_answer x y a =
    head_of-answer (pivoting_of x.settings) x.settings.ncol x.settings.nb (given x) (given y)
    (same_head x.settings.ncol (given x) (given y) a.head)
    ∙ ap (λ (p : Pivoting). head_answer_of p x.settings.ncol x.settings.nb (given y)) (same-pivoting x y a)
    ∙ ap (λ (n : ℕ). head_answer_of (pivoting_of y.settings) n x.settings.nb (given y)) a.columns
    ∙ ap (λ (w : ℕ). head_answer_of (pivoting_of y.settings) y.settings.ncol w (given y)) a.width

pub tail-rows-steer-nothing : TailRowsSteerNothing
tail-rows-steer-nothing x y ex ey a =
    let px : PassedCall x = passed x.settings x.input x.lent ex in
    let py : PassedCall y = passed y.settings y.input y.lent ey in
    let ox : outcome_of x ≡ left_by (head_of_call x) x = past-entry x.settings x.input x.lent ex in
    let oy : outcome_of y ≡ left_by (head_of_call x) y =
    past-entry y.settings y.input y.lent ey ∙ ap (λ (h : HeadAnswer). left_by h y) (sym (same_answer x y a)) in
    (same_outcome x y px py a.columns (head_of_call x) ox oy, same-tail-row x y px py a.columns (head_of_call x) ox oy)
