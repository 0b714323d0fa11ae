-- Laws of the entry checks: where each test leads, and what a factor call is once they have answered. Assumes nothing.
use mathlib.Core.Path.{◌≡◌, sym, ◌∙◌}
use mathlib.Core.Bool.{Bool, true, false, not, ◌&&◌}
use mathlib.Core.List.{List}
use Prim.Native.Nat.{ℕ, ◌+◌, ◌*◌, ◌≤◌}
use native.Mathlib.Omega.{arith}
use borrow.Author.Tests.{leb-true, eqb-true}
use lib.Dec.{leb}
use lib.Ieee.{Float, lt}
use mir.Syntax.{w64}
use mir.Val.{Fits}
use Rattle.model.specs.Sizes.{most_rows, widest_panel, most_rounds}
use Rattle.model.specs.Scalar.{zero_f, is_finite}
use Rattle.model.specs.Matrix.{view}
use Rattle.std.specs.Prelude.{Ok, Err}
use Rattle.model.specs.Answer.{Check, or_else, turned_away}
use Rattle.model.specs.Factor.{Buffers, shape_sound, lengths_of, lengths_sound, mode_check, columns_check, settings_check, entry_check, factor_of}
use Rattle.model.specs.declared.Mode.{Mode}
use Rattle.model.specs.declared.Mode.TheVariants.{Fail, Lift}
use Rattle.model.specs.declared.Settings.{Settings}
use Rattle.model.specs.declared.Lengths.{Lengths}
use Rattle.model.specs.declared.Refusal.{Refusal}
use Rattle.model.specs.declared.Refusal.TheVariants.{Shape, Width, Length, Floor, Limit}
use Rattle.model.proofs.Cases.{and_left, and_right}
use Rattle.model.proofs.Entry.{first-sound, second-sound, not-refused}
use Rattle.total.specs.Finite.{PanelPre}
use Rattle.checks.proofs.Shape as shape
use Rattle.entry.specs.Entry.{LengthsPre}

-- ---- the stated lengths fit a machine word

module _ (ncol nrow nb : ℕ) (h : LengthsPre ncol nrow nb) where
  wide : 3 * nrow * (nb + 1) ≤ 3 * most_rows * (widest_panel + 1)
  wide = shape.product (3 * most_rows) (widest_panel + 1) (omega arith) (omega arith)

  square : nb * nb ≤ widest_panel * widest_panel
  square = shape.product widest_panel widest_panel (omega arith) (omega arith)

  pub area-fits : Fits w64 (nrow * ncol)
  area-fits = shape.area-fits ncol nrow h.rows h.few_rows

  pub wide_fits : Fits w64 (3 * nrow * (nb + 1))
  wide_fits = record { fits = omega (arith, wide) }

  pub square-fits : Fits w64 (nb * nb)
  square-fits = record { fits = omega (arith, square) }

  pub work-fits : Fits w64 (3 * nrow * (nb + 1) + nb * nb)
  work-fits = record { fits = omega (arith, wide, square) }

pub ruleset lengths-fit = (area-fits, wide_fits, square-fits, work-fits)

-- ---- the mode: t is the finiteness test's answer

module _ (m : Mode) (limit : ℕ) where
  pub mode-fail : m ≡ Fail → Ok tt ≡ mode_check m limit
  unfolding mode_check
  mode-fail e = rw e

  module _ (f : Float) (t : Bool) (e : m ≡ Lift f) (h : t ≡ is_finite f) where
    pub mode-floor : not (t && lt zero_f f) ≡ true → Err Floor ≡ mode_check m limit
    unfolding mode_check
    mode-floor l = rw (e, ← h, l)

    pub mode-limit : not (t && lt zero_f f) ≡ false → not (leb 1 limit && leb limit most_rounds) ≡ true → Err Limit ≡ mode_check m limit
    unfolding mode_check
    mode-limit l k = rw (e, ← h, l, k)

    pub mode-sound : not (t && lt zero_f f) ≡ false → not (leb 1 limit && leb limit most_rounds) ≡ false → Ok tt ≡ mode_check m limit
    unfolding mode_check
    mode-sound l k = rw (e, ← h, l, k)

-- ---- the settings: s and l are the answers of the shape's test and of the lengths'

module _ (c : Settings) (n : Lengths) (s : Bool) (h : s ≡ shape_sound c.ncol c.nrow) where
  pub settings-shape : not s ≡ true → Err Shape ≡ settings_check c n
  unfolding settings_check
  settings-shape x = rw (← h, x)

  pub settings-width : not s ≡ false → not (leb 1 c.nb && leb c.nb widest_panel) ≡ true → Err Width ≡ settings_check c n
  unfolding settings_check
  settings-width x w = rw (← h, x, w)

  module _ (l : Bool) (g : l ≡ lengths_sound c n) (x : not s ≡ false) (w : not (leb 1 c.nb && leb c.nb widest_panel) ≡ false) where
    pub settings-length : not l ≡ true → Err Length ≡ settings_check c n
    unfolding settings_check
    settings-length y = rw (← h, x, w, ← g, y)

    pub settings-mode : (r : Check) → not l ≡ false → r ≡ mode_check c.mode c.limit → r ≡ settings_check c n
    unfolding settings_check
    settings-mode r y e = rw (← h, x, w, ← g, y) e

-- past all five, the input is a panel of its stated length
pub settings-panel : (c : Settings) (n : Lengths) (e : Check) (len : ℕ) → e ≡ settings_check c n → e ≡ Ok tt → n.input ≡ len
    → PanelPre c.nrow c.ncol len
unfolding settings_check lengths_sound
settings-panel c n e len h s l =
    let passed : settings_check c n ≡ Ok tt = sym h ∙ s in
    let shape : shape_sound c.ncol c.nrow ≡ true = not-refused (shape_sound c.ncol c.nrow) Shape (search first-sound) in
    let held : lengths_sound c n ≡ true = not-refused (lengths_sound c n) Length (search (first-sound, second-sound)) in
    record {
      rows = leb-true c.ncol c.nrow (search (and_left, and_right));
      panel = sym l ∙ eqb-true n.input (c.nrow * c.ncol) (search and_left);
    }

-- ---- the factor call: e is what `check` answers over the lengths of its buffers

module _ (c : Settings) (input : List Float) (b : Buffers) (e : Check)
    (h : e ≡ or_else (settings_check c (lengths_of input b)) (columns_check (view c.nrow input) c.nrow c.ncol 0)) where
  entry-is : e ≡ entry_check c input b
  unfolding entry_check
  entry-is = h

  pub entry-sound : e ≡ Ok tt → entry_check c input b ≡ Ok tt
  entry-sound x = sym entry-is ∙ x

  -- a refused call answers the refusal and leaves every buffer as it was
  pub entry-refused : (r : Refusal) → e ≡ Err r → factor_of c input b ≡ record { answer = turned_away r; buffers = b }
  unfolding factor_of
  entry-refused r x = let w : entry_check c input b ≡ Err r = sym entry-is ∙ x in rw w
