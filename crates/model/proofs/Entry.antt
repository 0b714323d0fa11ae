-- What passing the entry checks says of a factor call. Assumes nothing.
use mathlib.Core.Path.{◌≡◌, refl}
use mathlib.Core.Bool.{Bool, true, false, ◌&&◌, not}
use mathlib.Core.List.{List}
use Prim.Native.Nat.{◌-◌, ◌*◌, ◌≤◌}
use borrow.Author.Tests.{eqb-true, leb-true}
use lib.Dec.{leb}
use lib.ListN.{length}
use lib.Ieee.{Float}
use Rattle.std.specs.Prelude.{Ok, Err}
use Rattle.model.specs.Sizes.{most_columns, most_rows, widest_panel}
use Rattle.model.specs.Matrix.{view}
use Rattle.model.specs.Factor.{pivoting_of, Buffers, shape_sound, work_length, lengths_of, lengths_sound, mode_check, columns_check, settings_check, entry_check}
use Rattle.model.specs.Factor.{head_answer_of, after_head, factor_of}
use Rattle.model.specs.Answer.{or_else, refuse_if, Check}
use Rattle.model.specs.declared.Settings.{Settings}
use Rattle.model.specs.declared.Refusal.{Refusal}
use Rattle.model.specs.declared.Refusal.TheVariants.{Shape, Width, Length}
use Rattle.model.proofs.Cases.{and_left, and_right}

-- the first of two checks, and the second, where both pass
pub first-sound : (a b : Check) → or_else a b ≡ Ok tt → a ≡ Ok tt
first-sound (Ok u) b h = refl
first-sound (Err r) b h = h

pub second-sound : (a b : Check) → or_else a b ≡ Ok tt → b ≡ Ok tt
second-sound (Ok u) b h = h
second-sound (Err r) b h = cc

pub not-refused : (t : Bool) (r : Refusal) → refuse_if (not t) r ≡ Ok tt → t ≡ true
not-refused true r h = refl
not-refused false r h = cc

-- every buffer has its stated length
pub record Lengths (c : Settings) (xs : List Float) (b : Buffers) : Type 0 where
  pub input : length xs ≡ c.nrow * c.ncol
  pub panel : length b.panel ≡ c.nrow * c.ncol
  pub d : length b.d ≡ c.ncol
  pub sub : length b.sub ≡ c.ncol
  pub blocks : length b.blocks ≡ c.ncol
  pub lifts : length b.lifts ≡ c.ncol
  pub amounts : length b.amounts ≡ c.ncol
  pub tests : length b.tests ≡ c.ncol
  pub order : length b.order ≡ c.nrow
  pub marks : length b.marks ≡ c.nrow - c.ncol
  pub work : length b.work ≡ work_length c.nrow c.nb

pub lengths : (c : Settings) (input : List Float) (b : Buffers) → lengths_sound c (lengths_of input b) ≡ true → Lengths c input b
unfolding lengths_sound
lengths c input b h =
    record {
      input = eqb-true (length input) (c.nrow * c.ncol) (search (and_left, and_right) depth 12);
      panel = eqb-true (length b.panel) (c.nrow * c.ncol) (search (and_left, and_right) depth 12);
      d = eqb-true (length b.d) c.ncol (search (and_left, and_right) depth 12);
      sub = eqb-true (length b.sub) c.ncol (search (and_left, and_right) depth 12);
      blocks = eqb-true (length b.blocks) c.ncol (search (and_left, and_right) depth 12);
      lifts = eqb-true (length b.lifts) c.ncol (search (and_left, and_right) depth 12);
      amounts = eqb-true (length b.amounts) c.ncol (search (and_left, and_right) depth 12);
      tests = eqb-true (length b.tests) c.ncol (search (and_left, and_right) depth 13);
      order = eqb-true (length b.order) c.nrow (search (and_left, and_right) depth 13);
      marks = eqb-true (length b.marks) (c.nrow - c.ncol) (search (and_left, and_right) depth 13);
      work = eqb-true (length b.work) (work_length c.nrow c.nb) (search (and_left, and_right) depth 13);
    }

-- shape, width, lengths, mode and input are as they should be
pub record Passed (c : Settings) (input : List Float) (b : Buffers) : Type 0 where
  pub few_columns : c.ncol ≤ most_columns
  pub few_rows : c.nrow ≤ most_rows
  pub head : c.ncol ≤ c.nrow
  pub some : 1 ≤ c.nb
  pub narrow : c.nb ≤ widest_panel
  pub lengths : Lengths c input b
  pub mode : mode_check c.mode c.limit ≡ Ok tt
  pub finite : columns_check (view c.nrow input) c.nrow c.ncol 0 ≡ Ok tt

pub passed : (c : Settings) (input : List Float) (b : Buffers) → entry_check c input b ≡ Ok tt → Passed c input b
unfolding entry_check settings_check
passed c input b h =
    let shape : shape_sound c.ncol c.nrow ≡ true = not-refused (shape_sound c.ncol c.nrow) Shape (search (first-sound, second-sound)) in
    let width : leb 1 c.nb && leb c.nb widest_panel ≡ true = not-refused (leb 1 c.nb && leb c.nb widest_panel) Width (search (first-sound, second-sound)) in
    record {
      few_columns = leb-true c.ncol most_columns (search (and_left, and_right));
      few_rows = leb-true c.nrow most_rows (search (and_left, and_right));
      head = leb-true c.ncol c.nrow (search (and_left, and_right));
      some = leb-true 1 c.nb (search (and_left, and_right));
      narrow = leb-true c.nb widest_panel (search (and_left, and_right));
      lengths = lengths c input b (not-refused (lengths_sound c (lengths_of input b)) Length (search (first-sound, second-sound)));
      mode = search (first-sound, second-sound);
      finite = search (first-sound, second-sound);
    }

-- past the entry checks the head decides
pub past-entry : (c : Settings) (input : List Float) (b : Buffers) → entry_check c input b ≡ Ok tt
    → factor_of c input b ≡ after_head (head_answer_of (pivoting_of c) c.ncol c.nb (view c.nrow input)) c (view c.nrow input) b
unfolding factor_of
past-entry c input b h = rw h
