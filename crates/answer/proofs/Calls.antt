-- Laws of the calls: what a factor call answers and leaves is printed by its lines. Assumes nothing.
use mathlib.Core.Path.{◌≡◌, refl, sym, ◌∙◌}
use mathlib.Core.List.{List, [], ◌++◌}
use Prim.Native.Nat.{ℕ, ◌+◌, ◌*◌, ◌≤◌}
use native.Mathlib.Omega.{arith}
use lib.ListN.{length, take}
use lib.Seq.{take_all}
use lib.Ieee.{Float}
use Rattle.std.specs.Prelude.{Ok, Err}
use Rattle.model.specs.Answer.{Said, refused, accepted, Factored, factored_says}
use Rattle.model.specs.Factor.{Buffers, Outcome, factor_of}
use Rattle.model.specs.declared.Settings.{Settings}
use Rattle.model.specs.declared.Report.{Report}
use Rattle.judge.specs.Judge.{outcome_of}
use Rattle.little_endian.specs.LittleEndian.{numbers_of}
use Rattle.record.specs.Record.{Asked, fault_number, panel_length, panel_of, asked_of, longest}
use Rattle.record.specs.declared.Fault.{Fault}
use Rattle.record.proofs.Laws.{asked-sizes, asked-length, asked-prefix}
use Rattle.lines.specs.Lines.{refused_line, accepted_lines, said_lines}
use Rattle.answer.specs.Lines.{outcome_lines, cleared, printed}
use Rattle.answer.specs.Lengths.{SizesPre}

-- ---- what a call says

-- all but the working buffer, of which nothing is printed
abbrev pub told : Buffers → Buffers
told x = record {
  panel = x.panel;
  d = x.d;
  sub = x.sub;
  blocks = x.blocks;
  lifts = x.lifts;
  amounts = x.amounts;
  tests = x.tests;
  order = x.order;
  marks = x.marks;
  work = [];
}

said-told : (s : Said Report) (c : Settings) (x : Buffers) → said_lines s c (told x) ≡ said_lines s c x
unfolding accepted_lines
said-told (refused n a b) c x = refl
said-told (accepted r) c x = refl

-- ---- the factor call

pub run_is : {xs ys : List ℕ} (c : Settings) (answer : Factored) (x : Buffers) (o : Outcome) → outcome_of answer x ≡ o
    → ys ≡ xs ++ said_lines (factored_says answer) c (told x) → xs ≡ [] → ys ≡ outcome_lines c o
unfolding outcome_lines
run_is c answer x o e w z = w ∙ rw (z, ← e) (said-told (factored_says answer) c x)

-- ---- the stream

module _ (s : List ℕ) (c : Settings) (e : asked_of s ≡ Ok c) where
  -- the panel stands in the stream
  pub panel-there : {n : ℕ} → n ≡ panel_length c → 30 + 8 * n ≤ length s
  panel-there q = omega (arith, asked-length s c e)

  -- its sizes are the program's
  pub sizes-pre : SizesPre c
  sizes-pre = let w = asked-sizes s c e in record { columns = w.columns; rows = w.rows; width = w.width }

  pub factor-printed : {xs : List ℕ} {n : ℕ} (input : List Float) → n ≡ panel_length c → input ≡ numbers_of s 30 n
      → xs ≡ outcome_lines c (factor_of c input (cleared c)) → xs ≡ printed s
  unfolding printed panel_of
  factor-printed input q i w = rw (e, ← q, ← i) w

-- turned away, with no place named
pub refused-printed : {xs : List ℕ} (s : List ℕ) (f : Fault) → asked_of s ≡ Err f → xs ≡ refused_line (fault_number f) 0 0 → xs ≡ printed s
unfolding printed
refused-printed s f e w = rw e w

-- two streams turned away alike print alike
refused-alike : (s t : List ℕ) (f : Fault) → asked_of s ≡ Err f → asked_of t ≡ Err f → printed s ≡ printed t
unfolding printed
refused-alike s t f e g = rw (e, g)

-- what a stream prints is settled by its first bytes, one more than the longest that asks for a factor has
pub printed-prefix : (s : List ℕ) → printed s ≡ printed (take (longest + 1) s)
printed-prefix s = by (asked_of s) refl
  where
    by : (a : Asked) → asked_of s ≡ a → printed s ≡ printed (take (longest + 1) s)
    by (Ok c) e =
        let few = (asked-sizes s c e).numbers in
        rw (take_all (longest + 1) s (omega (arith, asked-length s c e)))
    by (Err f) e = refused-alike s (take (longest + 1) s) f e (sym (asked-prefix s) ∙ e)
