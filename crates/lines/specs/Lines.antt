-- The lines that the program prints of an answer. From docs/SCOPE.md, "The program node".
-- Text is a list of ASCII codes; a line ends in a newline, and no line has a space at its end. Definitions only. Assumes nothing.
use Rattle.std.specs.Prelude.{cond, List, [], ◌∷◌, ◌++◌, ℕ, zero, suc, ◌-◌, ltb, length, Float}
use Rattle.std.specs.Float.{binary64}
use Rattle.std.specs.Float.Ieee.{to_bits}
use Rattle.model.specs.Matrix.{view, vec, naturals}
use Rattle.model.specs.Answer.{Said, refused, accepted}
use Rattle.model.specs.Factor.{Buffers}
use Rattle.model.specs.declared.Settings.{Settings}
use Rattle.model.specs.declared.Report.{Report}
use Rattle.model.specs.declared.Tally.{Tally}
use Rattle.text.specs.Text.{word, decimal_of, hex_of}

-- ---- parts of a line

-- a space and a number in decimal
unfoldable pub field : ℕ → List ℕ
field n = 32 ∷ decimal_of n

-- a space and an f64 number's bits in hexadecimal, of a not-a-number 7FF8000000000000
unfoldable pub number : Float → List ℕ
number x = 32 ∷ hex_of (to_bits binary64 x)

-- three numbers in decimal
unfoldable pub three : (x y z : ℕ) → List ℕ
three x y z = field x ++ field y ++ field z

abbrev pub newline : List ℕ
newline = 10 ∷ []

-- f 0, f 1, .., f (n - 1), one after another
unfoldable pub each : (ℕ → List ℕ) → ℕ → List ℕ
each f zero = []
each f (suc n) = each f n ++ f n

-- ---- lines

-- 'refused N A B'
unfoldable pub refused_line : (n a b : ℕ) → List ℕ
refused_line n a b = word "refused" ++ three n a b ++ newline

unfoldable pub accepted_line : ℕ → List ℕ
accepted_line rounds = word "accepted rounds" ++ field rounds ++ newline

-- one of the order's places
unfoldable pub order_field : List ℕ → ℕ → List ℕ
order_field order i = field (naturals order i)

unfoldable pub order_line : List ℕ → List ℕ
order_line order = word "order" ++ each (order_field order) (length order) ++ newline

-- 'position, block byte, d, subdiagonal, lift byte, amount, test number'
unfoldable pub pivot_line : (k block : ℕ) → (d sub : Float) → (lift : ℕ) → (amount : Float) → (test : ℕ) → List ℕ
pivot_line k block d sub lift amount test =
    word "pivot" ++ field k ++ field block ++ number d ++ number sub ++ field lift ++ number amount ++ field test ++ newline

unfoldable pub pivot_at : (d sub : List Float) → (blocks lifts : List ℕ) → (amounts : List Float) → (tests : List ℕ) → ℕ → List ℕ
pivot_at d sub blocks lifts amounts tests k =
    pivot_line k (naturals blocks k) (vec d k) (vec sub k) (naturals lifts k) (vec amounts k) (naturals tests k)

-- position k's line of a call's buffers
abbrev pub pivot_of : Buffers → ℕ → List ℕ
pivot_of x = pivot_at x.d x.sub x.blocks x.lifts x.amounts x.tests

-- 'positive, negative, zero'
unfoldable pub inertia_line : Tally → List ℕ
inertia_line t = word "inertia" ++ three t.positive t.negative t.zero ++ newline

-- row i's number in a column
unfoldable pub entry_field : (nrow : ℕ) → List Float → (i : ℕ) → ℕ → List ℕ
entry_field nrow panel i j = number (view nrow panel i j)

-- a tail row's mark, which ends its line: a head row has none
unfoldable pub mark_field : (ncol : ℕ) → List ℕ → ℕ → List ℕ
mark_field ncol marks i = cond (ltb i ncol) [] (field (naturals marks (i - ncol)))

-- its number, its columns, and a tail row's mark
unfoldable pub row_line : (nrow ncol : ℕ) → List Float → List ℕ → ℕ → List ℕ
row_line nrow ncol panel marks i = word "row" ++ field i ++ each (entry_field nrow panel i) ncol ++ mark_field ncol marks i ++ newline

-- row i's line of a call's buffers
abbrev pub row_of : Settings → Buffers → ℕ → List ℕ
row_of c x = row_line c.nrow c.ncol x.panel x.marks

-- ---- all lines of a factor call's answer

-- the lines of an accepted call
unfoldable pub accepted_lines : Settings → Report → Buffers → List ℕ
accepted_lines c r x =
    accepted_line r.rounds ++ order_line x.order ++ each (pivot_of x) c.ncol
    ++ inertia_line r.inertia ++ each (row_of c x) c.nrow

abbrev pub said_lines : Said Report → Settings → Buffers → List ℕ
said_lines (refused n a b) c x = refused_line n a b
said_lines (accepted r) c x = accepted_lines c r x
