-- A descendant's update of a target node. From docs/SCOPE.md, "Update", and refusals 13 to 18. Definitions only. Assumes nothing.
use Rattle.std.specs.Prelude.{Bool, true, cond, not, ◌&&◌, ◌||◌, List, ℕ, zero, suc, ◌+◌, ◌*◌, leb, ltb, eqb, length, Float, Ok, Err}
use Rattle.model.specs.Sizes.{most_columns, most_rows}
use Rattle.model.specs.Scalar.{◌⊖◌, ◌⊗◌, zero_f, is_finite}
use Rattle.model.specs.Matrix.{Row, Mat, view, vec, naturals, column_major}
use Rattle.model.specs.Step.{diagonals_of, begins}
use Rattle.model.specs.Panel.{times_d, sum_from}
use Rattle.model.specs.Inertia.{check_bytes}
use Rattle.model.specs.Factor.{shape_sound, every_from}
use Rattle.model.specs.Assembly.{Panelled, panel_after, first_not}
use Rattle.model.specs.Answer.{or_else, refuse_if, Check}
use Rattle.model.specs.declared.Refusal.{Refusal}
use Rattle.model.specs.declared.Refusal.TheVariants.{UpdateLength, TargetRows, DescendantRows, AbsentRow, DescendantNumber}

-- the target: ncol columns, nrow rows, the global row of its first column, its global rows
pub record Target : Type 0 where
  pub ncol : ℕ
  pub nrow : ℕ
  pub first : ℕ
  pub rows : List ℕ

-- the descendant: nk columns, mk rows below, its panel with the nk head rows first, d, subdiagonal, block bytes, and the mk global rows
pub record Descendant : Type 0 where
  pub nk : ℕ
  pub mk : ℕ
  pub panel : List Float
  pub d : List Float
  pub sub : List Float
  pub blocks : List ℕ
  pub rows : List ℕ

-- ---- refusals

-- refusal 13
unfoldable pub update_sound : Target → Descendant → List Float → Bool
update_sound t k panel =
    shape_sound t.ncol t.nrow && (leb k.nk most_columns && (leb (k.nk + k.mk) most_rows
    && (eqb (length panel) (t.nrow * t.ncol) && (eqb (length t.rows) t.nrow && (eqb (length k.panel) ((k.nk + k.mk) * k.nk)
    && (eqb (length k.d) k.nk && (eqb (length k.sub) k.nk && (eqb (length k.blocks) k.nk && eqb (length k.rows) k.mk))))))))

-- 'strictly rising': each of n rows is above the one before it
abbrev pub rising : (ℕ → ℕ) → ℕ → Bool
rising rows n = every_from (λ i. eqb (i + 1) n || ltb (rows i) (rows (i + 1))) n 0

-- the first ncol rows are first, first + 1 and so on
abbrev pub begins_at : ℕ → (ℕ → ℕ) → ℕ → Bool
begins_at first rows ncol = every_from (λ i. eqb (rows i) (first + i)) ncol 0

-- the least of m places from i on where f is g, and the end where it is at none
unfoldable pub place_from : (ℕ → ℕ) → ℕ → ℕ → ℕ → ℕ
place_from f g zero i = i
place_from f g (suc m) i = let rest = place_from f g m (i + 1) in cond (eqb (f i) g) i rest

-- the row g 'lands': it is one of the target's first ncol rows, which are first, first + 1 and so on (refusal 14)
abbrev pub lands : Target → ℕ → Bool
lands t g = leb t.first g && ltb g (t.first + t.ncol)

-- refusal 17: the first of m rows from i on that the target lacks, beginning with the first row that lands; `landed` says that a row before i landed
unfoldable pub absent_from : Target → (ℕ → ℕ) → ℕ → ℕ → Bool → Check
absent_from t rows zero i landed = Ok tt
absent_from t rows (suc m) i landed =
    let now = landed || lands t (rows i) in
    let there = ltb (place_from (naturals t.rows) (rows i) t.nrow 0) t.nrow in
    let rest = absent_from t rows m (i + 1) now in
    cond (now && not there) (Err (AbsentRow i)) rest

-- refusal 18 is not met at the descendant's column c: its d, its subdiagonal under a 1 and its numbers below the head are finite
unfoldable pub descendant_sound : Descendant → ℕ → Bool
descendant_sound k c =
    is_finite (vec k.d c) && ((not (begins (naturals k.blocks) c) || is_finite (vec k.sub c))
    && every_from (λ i. is_finite (view (k.nk + k.mk) k.panel i c)) k.mk k.nk)

-- what is refused there
abbrev pub number_at : ℕ → Refusal
number_at c = DescendantNumber (record { 0 = c })

unfoldable pub update_check : Target → Descendant → List Float → Check
update_check t k panel =
    or_else (refuse_if (not (update_sound t k panel)) UpdateLength)
    (or_else (refuse_if (not (rising (naturals t.rows) t.nrow && begins_at t.first (naturals t.rows) t.ncol)) TargetRows)
    (or_else (refuse_if (not (rising (naturals k.rows) k.mk)) DescendantRows)
    (or_else (check_bytes k.blocks)
    (or_else (cond (leb 1 k.nk) (absent_from t (naturals k.rows) k.mk 0 (not true)) (Ok tt)) (first_not (descendant_sound k) number_at k.nk 0)))))

-- ---- the update

-- the descendant's row r below its head, as a row of its columns
abbrev pub descendant_row : Descendant → ℕ → Row
descendant_row k r = view (k.nk + k.mk) k.panel (k.nk + r)

-- 'acc' of the descendant's row r and its landing row c: from +0.0 on, r's numbers times 'v' of c, in the columns' order
abbrev pub update_acc : Descendant → ℕ → ℕ → Float
update_acc k r c = sum_from (λ j. descendant_row k r j ⊗ times_d (diagonals_of k.d k.sub k.blocks) (descendant_row k c) j) 0 k.nk zero_f

-- row i and column j of the target: less acc where both are rows of the descendant, the column's not after the row's
unfoldable pub updated : Target → Descendant → Mat → Mat
updated t k a = λ i j.
    let r = place_from (naturals k.rows) (naturals t.rows i) k.mk 0 in
    let c = place_from (naturals k.rows) (naturals t.rows j) k.mk 0 in
    let less = a i j ⊖ update_acc k r c in
    cond (leb 1 k.nk && (ltb r k.mk && leb c r)) less (a i j)

unfoldable pub update_of : Target → Descendant → List Float → Panelled
update_of t k panel =
    let new = column_major t.nrow t.ncol (updated t k (view t.nrow panel)) in
    panel_after (update_check t k panel) new panel
