-- The factor call whole: its refusals in their order, and every lent cell at the end. From docs/SCOPE.md, "Sizes and buffers", "Refusals" and
-- "The factor call". The head alone decides (`head_answer_of`); a tail row follows from the panels and itself (`factor_row_of`).
-- Definitions only. Assumes nothing.
use Rattle.std.specs.Prelude.{Bool, true, cond, not, ◌&&◌, ◌||◌, List, ℕ, zero, suc, ◌+◌, ◌-◌, ◌*◌, min, max, leb, ltb, eqb, length, replicate, Float, Ok, Err}
use Rattle.std.specs.Float.Ieee.{lt}
use Rattle.model.specs.Sizes.{most_columns, most_rows, widest_panel, most_rounds}
use Rattle.model.specs.Scalar.{zero_f, reciprocal_of, is_finite}
use Rattle.model.specs.Matrix.{Row, Mat, view, vec, head_of, row_of, tabulate, column_major}
use Rattle.model.specs.Step.{Diagonals, StaysLent, block_at, begins, ends_block}
use Rattle.model.specs.Panel.{Panel, tail_row_of}
use Rattle.model.specs.Head as head
use Rattle.model.specs.Inertia.{tallied_of}
use Rattle.model.specs.Answer.{Said, accepted, or_else, refuse_if, turned_away, Check}
use Rattle.model.specs.declared.Mode.{Mode}
use Rattle.model.specs.declared.Mode.TheVariants.{Fail, Lift}
use Rattle.model.specs.declared.Pivoting.{Pivoting}
use Rattle.model.specs.declared.Settings.{Settings}
use Rattle.model.specs.declared.Lengths.{Lengths}
use Rattle.model.specs.declared.Refusal.{Refusal}
use Rattle.model.specs.declared.Refusal.TheVariants.{Shape, Width, Length, Floor, Limit, Input, NotFinite}
use Rattle.model.specs.declared.Report.{Report}
use Rattle.model.specs.declared.LentBuffers.{LentBuffers}

-- the ten buffers that a call writes
pub record Buffers : Type 0 where
  pub panel : List Float
  pub d : List Float
  pub sub : List Float
  pub blocks : List ℕ
  pub lifts : List ℕ
  pub amounts : List Float
  pub tests : List ℕ
  pub order : List ℕ
  pub marks : List ℕ
  pub work : List Float

-- as a call is lent them
abbrev pub lent_in : LentBuffers → Buffers
lent_in b = record {
  panel = b.panel.now;
  d = b.d.now;
  sub = b.sub.now;
  blocks = b.blocks.now;
  lifts = b.lifts.now;
  amounts = b.amounts.now;
  tests = b.tests.now;
  order = b.order.now;
  marks = b.marks.now;
  work = b.work.now;
}

-- the same ten buffers
pub record SameLent (x y : LentBuffers) : Type 0 where
  pub panel : StaysLent x.panel y.panel
  pub d : StaysLent x.d y.d
  pub sub : StaysLent x.sub y.sub
  pub blocks : StaysLent x.blocks y.blocks
  pub lifts : StaysLent x.lifts y.lifts
  pub amounts : StaysLent x.amounts y.amounts
  pub tests : StaysLent x.tests y.tests
  pub order : StaysLent x.order y.order
  pub marks : StaysLent x.marks y.marks
  pub work : StaysLent x.work y.work

-- ---- entry checks

-- refusal 1
abbrev pub shape_sound : ℕ → ℕ → Bool
shape_sound ncol nrow = leb ncol most_columns && (leb nrow most_rows && leb ncol nrow)

-- the working buffer: 3·nrow·(nb + 1) + nb², by the width as it is passed
abbrev pub work_length : ℕ → ℕ → ℕ
work_length nrow nb = 3 * nrow * (nb + 1) + nb * nb

abbrev pub lengths_of : List Float → Buffers → Lengths
lengths_of input b = record {
  input = length input;
  panel = length b.panel;
  d = length b.d;
  sub = length b.sub;
  blocks = length b.blocks;
  lifts = length b.lifts;
  amounts = length b.amounts;
  tests = length b.tests;
  order = length b.order;
  marks = length b.marks;
  work = length b.work;
}

-- refusal 3
unfoldable pub lengths_sound : Settings → Lengths → Bool
lengths_sound c n =
    eqb n.input (c.nrow * c.ncol) && (eqb n.panel (c.nrow * c.ncol) && (eqb n.d c.ncol && (eqb n.sub c.ncol
    && (eqb n.blocks c.ncol && (eqb n.lifts c.ncol && (eqb n.amounts c.ncol && (eqb n.tests c.ncol && (eqb n.order c.nrow
    && (eqb n.marks (c.nrow - c.ncol) && eqb n.work (work_length c.nrow c.nb))))))))))

-- refusals 4 and 5
unfoldable pub mode_check : Mode → ℕ → Check
mode_check Fail limit = Ok tt
mode_check (Lift floor) limit = or_else (refuse_if (not (is_finite floor && lt zero_f floor)) Floor) (refuse_if (not (leb 1 limit && leb limit most_rounds)) Limit)

-- refusal 6: the first of n rows from i on, in column j, that is not finite
unfoldable pub column_check : Mat → ℕ → ℕ → ℕ → Check
column_check a j zero i = Ok tt
column_check a j (suc n) i =
    let rest = column_check a j n (i + 1) in
    cond (is_finite (a i j)) rest (Err (Input (record { 0 = j }) (record { 0 = i })))

-- the least of n columns from j on that has one, each from its diagonal down
unfoldable pub columns_check : Mat → ℕ → ℕ → ℕ → Check
columns_check a nrow zero j = Ok tt
columns_check a nrow (suc n) j = let rest = columns_check a nrow n (j + 1) in or_else (column_check a j (nrow - j) j) rest

-- 1 to 5
unfoldable pub settings_check : Settings → Lengths → Check
settings_check c n =
    or_else (refuse_if (not (shape_sound c.ncol c.nrow)) Shape)
    (or_else (refuse_if (not (leb 1 c.nb && leb c.nb widest_panel)) Width)
    (or_else (refuse_if (not (lengths_sound c n)) Length) (mode_check c.mode c.limit)))

-- 1 to 6
unfoldable pub entry_check : Settings → List Float → Buffers → Check
entry_check c input b = or_else (settings_check c (lengths_of input b)) (columns_check (view c.nrow input) c.nrow c.ncol 0)

-- ---- the head's run and refusal 9

-- nothing eliminated yet: ncol times +0.0, no block, no lift, every row in its place
unfoldable pub start : ℕ → Mat → head.State
start ncol a =
    let none = vec (replicate ncol zero_f) in
    record {
      a = a;
      mult = head.blank;
      pivots = record {
        diagonals = record { d = none; sub = none; blocks = λ i. 0 };
        partners = λ i. 0;
        notes = record { lifts = λ i. 0; amounts = none; tests = λ i. 0; order = λ i. i };
      };
      rounds = 0;
    }

-- what the settings say of pivots
abbrev pub pivoting_of : Settings → Pivoting
pivoting_of c = record { mode = c.mode; limit = c.limit }

-- 'used as min(nb, max(ncol, 1))'; nothing but the head enters it
unfoldable pub head_run_of : Pivoting → ℕ → ℕ → Mat → head.Run
head_run_of how ncol nb a = head.panels_of how ncol (min nb (max ncol 1)) ncol 0 (start ncol (head_of ncol a))

-- f at each of n places from i on
unfoldable pub every_from : (ℕ → Bool) → ℕ → ℕ → Bool
every_from f zero i = true
every_from f (suc n) i = f i && every_from f n (i + 1)

-- a pivot's own number at k: the reciprocal of a 1x1; of a block's first column its determinant with its reciprocal; its second column has none
unfoldable pub pivot_sound : Diagonals → ℕ → Bool
pivot_sound D k =
    let det = (block_at D.d D.sub k).det in
    let block = is_finite det && is_finite (reciprocal_of det) in
    let single = ends_block D.blocks k || is_finite (reciprocal_of (D.d k)) in
    cond (begins D.blocks k) block single

-- column k after the last column: its d, its subdiagonal, what its pivot answers for, and its lower numbers of the head are finite
unfoldable pub column_sound : ℕ → Diagonals → Mat → ℕ → Bool
column_sound ncol D a k =
    is_finite (D.d k) && (is_finite (D.sub k) && (pivot_sound D k && every_from (λ i. is_finite (a i k)) (ncol - k) k))

-- the least of n columns from k on that is not: refusal 9
unfoldable pub result_check : ℕ → Diagonals → Mat → ℕ → ℕ → Check
result_check ncol D a zero k = Ok tt
result_check ncol D a (suc n) k =
    let rest = result_check ncol D a n (k + 1) in
    cond (column_sound ncol D a k) rest (Err (NotFinite (record { 0 = k })))

-- the head's answer: a refusal, or the state and the panels
pub data HeadAnswer : Type 0 where
  fails : Refusal → HeadAnswer
  stands : head.State → List Panel → HeadAnswer

abbrev pub judged : Check → head.State → List Panel → HeadAnswer
judged (Ok u) s ps = stands s ps
judged (Err r) s ps = fails r

abbrev pub judged_run : ℕ → head.Run → HeadAnswer
judged_run ncol (head.refused r) = fails r
judged_run ncol (head.done s ps) = judged (result_check ncol s.pivots.diagonals s.a ncol 0) s ps

unfoldable pub head_answer_of : Pivoting → ℕ → ℕ → Mat → HeadAnswer
head_answer_of how ncol nb a = judged_run ncol (head_run_of how ncol nb a)

-- ---- the whole answer

-- the factor row of a tail row
unfoldable pub factor_row_of : ℕ → List Panel → Row → Row
factor_row_of ncol ps r = tail_row_of ncol ps (row_of ncol r)

-- the mark of a factor row: 1 if one of its numbers is not finite, else 0
unfoldable pub mark_of : ℕ → Row → ℕ
mark_of ncol r = cond (every_from (λ j. is_finite (r j)) ncol 0) 0 1

-- upper positions as given, the head's lower triangle, the tail's factor rows
unfoldable pub factor_entry : ℕ → head.State → List Panel → Mat → Mat
factor_entry ncol s ps a = λ i j.
    let tail = factor_row_of ncol ps (a i) j in
    cond (ltb i j) (a i j) (cond (ltb i ncol) (s.a i j) tail)

-- what a call leaves: its answer and the buffers
pub record Outcome : Type 0 where
  pub answer : Said Report
  pub buffers : Buffers

-- after 7, 8, 9, 23 and 24: zeros in every buffer that the call writes
abbrev pub zeros : Buffers → Buffers
zeros b = record {
  panel = replicate (length b.panel) zero_f;
  d = replicate (length b.d) zero_f;
  sub = replicate (length b.sub) zero_f;
  blocks = replicate (length b.blocks) 0;
  lifts = replicate (length b.lifts) 0;
  amounts = replicate (length b.amounts) zero_f;
  tests = replicate (length b.tests) 0;
  order = replicate (length b.order) 0;
  marks = replicate (length b.marks) 0;
  work = replicate (length b.work) zero_f;
}

abbrev pub written : Settings → Mat → head.State → List Panel → Buffers → Buffers
written c a s ps b = record {
  panel = column_major c.nrow c.ncol (factor_entry c.ncol s ps a);
  d = tabulate c.ncol s.pivots.diagonals.d;
  sub = tabulate c.ncol s.pivots.diagonals.sub;
  blocks = tabulate c.ncol s.pivots.diagonals.blocks;
  lifts = tabulate c.ncol s.pivots.notes.lifts;
  amounts = tabulate c.ncol s.pivots.notes.amounts;
  tests = tabulate c.ncol s.pivots.notes.tests;
  order = tabulate c.nrow s.pivots.notes.order;
  marks = tabulate (c.nrow - c.ncol) (λ i. mark_of c.ncol (factor_row_of c.ncol ps (a (c.ncol + i))));
  work = replicate (length b.work) zero_f;
}

abbrev pub report_of : ℕ → head.State → Report
report_of ncol s = let D = s.pivots.diagonals in record { rounds = s.rounds; inertia = tallied_of ncol D.d D.sub D.blocks }

abbrev pub after_head : HeadAnswer → Settings → Mat → Buffers → Outcome
after_head (fails r) c a b = record { answer = turned_away r; buffers = zeros b }
after_head (stands s ps) c a b = record { answer = accepted (report_of c.ncol s); buffers = written c a s ps b }

abbrev pub after_check : Check → Outcome → Buffers → Outcome
after_check (Ok u) o b = o
after_check (Err r) o b = record { answer = turned_away r; buffers = b }

-- the factor call
unfoldable pub factor_of : Settings → List Float → Buffers → Outcome
factor_of c input b =
    let a = view c.nrow input in
    let o = after_head (head_answer_of (pivoting_of c) c.ncol c.nb a) c a b in
    after_check (entry_check c input b) o b
