-- The sums of a landing row: 'v' and acc step by step, as the code takes them, and what its functions ask of their callers. From docs/SCOPE.md, "Update".
-- Definitions only. Assumes nothing.
use Rattle.std.specs.Prelude.{◌≡◌, List, ℕ, ◌+◌, ◌-◌, ◌*◌, ◌<◌, ◌≤◌, length, Float, Ok}
use Rattle.model.specs.Scalar.{◌⊗◌, zero_f}
use Rattle.model.specs.Matrix.{Row, Mat, view, naturals}
use Rattle.model.specs.Step.{diagonals_of}
use Rattle.model.specs.Panel.{times_d, sum_from}
use Rattle.model.specs.Inertia.{check_bytes}
use Rattle.model.specs.Update.{Descendant}
use Rattle.grid.specs.Rules.{column_of}
use Rattle.kernels.specs.Rules.{plus_times}
use Rattle.update_sums.specs.declared.Columns.{Columns}

-- 'v' of a landing row: the row times D; of the descendant only d, subdiagonal and block bytes play a part
unfoldable pub weighed : List Float → List Float → List ℕ → Row → Row
weighed d sub blocks = times_d (diagonals_of d sub blocks)

-- acc of row i of a panel of n rows, by the panel's rows: from +0.0 on, over m columns in their order
unfoldable pub acc_of : (n m : ℕ) → (panel d sub : List Float) → (blocks : List ℕ) → (i : ℕ) → Row
acc_of n m panel d sub blocks i = λ r. sum_from (λ s. view n panel r s ⊗ weighed d sub blocks (view n panel i) s) 0 m zero_f

-- the panel by rows and columns; 'v' of its row i; acc of its row i over m columns
abbrev pub matrix_in : Columns → Mat
matrix_in k = view k.rows k.panel.now

abbrev pub weights_in : Columns → ℕ → Row
weights_in k i = weighed k.d.now k.sub.now k.blocks.now (view k.rows k.panel.now i)

abbrev pub sums_in : Columns → (m i : ℕ) → Row
sums_in k m i = acc_of k.rows m k.panel.now k.d.now k.sub.now k.blocks.now i

-- acc of row i of a descendant's panel over m columns
abbrev pub sums_of : Descendant → (m i : ℕ) → Row
sums_of k m i = acc_of (k.nk + k.mk) m k.panel k.d k.sub k.blocks i

-- f from n on
unfoldable pub from_row : Row → ℕ → Row
from_row f n = λ r. f (n + r)

-- numbers for the rows from lo on, with column s of a times v added, then the next column times w
unfoldable pub two_added : Row → Mat → (s lo : ℕ) → (v w : Float) → Row
two_added f a s lo v w = plus_times (plus_times f (from_row (column_of a s) lo) v) (from_row (column_of a (s + 1)) lo) w

-- ---- what the functions ask of their callers

-- row i of the panel has column s, and the next one where a block begins at s
pub record WeightPre (k : Columns) (i s : ℕ) : Type 0 where
  pub row : i < k.rows
  pub column : k.rows + s * k.rows ≤ length k.panel.now
  pub pivot : s < length k.d.now
  pub subdiagonal : s < length k.sub.now
  pub byte : s < length k.blocks.now
  pub next : naturals k.blocks.now s ≡ 1 → k.rows + (s + 1) * k.rows ≤ length k.panel.now

-- rows lo up to hi of the panel, row i, the pivots, and room for acc
pub record SumPre (k : Columns) (i lo hi room : ℕ) : Type 0 where
  pub row : i < k.rows
  pub up : lo ≤ hi
  pub rows : hi ≤ k.rows
  pub fits : hi - lo ≤ room
  pub area : length k.panel.now ≡ k.rows * k.columns
  pub pivots : length k.d.now ≡ k.columns
  pub subdiagonal : length k.sub.now ≡ k.columns
  pub blocks : length k.blocks.now ≡ k.columns
  pub check : check_bytes k.blocks.now ≡ Ok tt
