-- Laws of the lines: a line is pushed by pushing its parts one after another. Assumes nothing.
use mathlib.Core.Path.{◌≡◌, sym, ◌∙◌}
use mathlib.Core.List.{List, ◌++◌, append_assoc}
use Prim.Native.Nat.{ℕ, ◌+◌, ◌-◌, ◌≤◌}
use native.Mathlib.Numerals.{add-one}
use borrow.Author.Tests.{le-ltb}
use lib.ListN.{get_or}
use lib.Ieee.{Float, nan}
use Rattle.std.proofs.Common.{append-nil}
use Rattle.model.specs.Matrix.{view, vec, naturals}
use Rattle.text.specs.Text.{word}
use Rattle.lines.specs.Lines.{field, number, newline, each, accepted_line, order_field, pivot_line, pivot_at, entry_field, mark_field}

-- one piece after another
after : (xs p q : List ℕ) {ys zs : List ℕ} → ys ≡ xs ++ p → zs ≡ ys ++ q → zs ≡ xs ++ (p ++ q)
after xs p q v w = w ∙ rw v (append_assoc xs p q)

-- ---- lines of many parts

pub accepted-is : (o : List ℕ) {p₁ p₂ p₃ : List ℕ} (n : ℕ) → p₁ ≡ o ++ word "accepted rounds" → p₂ ≡ p₁ ++ field n → p₃ ≡ p₂ ++ newline
    → p₃ ≡ o ++ accepted_line n
unfolding accepted_line
accepted-is o n a b c =
    let one = word "accepted rounds" in
    after o (one ++ field n) newline (after o one (field n) a b) c

pub pivot-is : (o : List ℕ) {p₁ p₂ p₃ p₄ p₅ p₆ p₇ p₈ p₉ : List ℕ} (k block : ℕ) (d sub : Float) (lift : ℕ) (amount : Float) (test : ℕ)
    → p₁ ≡ o ++ word "pivot" → p₂ ≡ p₁ ++ field k → p₃ ≡ p₂ ++ field block → p₄ ≡ p₃ ++ number d → p₅ ≡ p₄ ++ number sub → p₆ ≡ p₅ ++ field lift
    → p₇ ≡ p₆ ++ number amount → p₈ ≡ p₇ ++ field test → p₉ ≡ p₈ ++ newline → p₉ ≡ o ++ pivot_line k block d sub lift amount test
unfolding pivot_line
pivot-is o k block d sub lift amount test a b c e f g h i j =
    let two = word "pivot" ++ field k in
    let three = two ++ field block in
    let four = three ++ number d in
    let five = four ++ number sub in
    let six = five ++ field lift in
    let seven = six ++ number amount in
    let eight = seven ++ field test in
    after o eight newline (after o seven (field test) (after o six (number amount) (after o five (field lift) (after o four (number sub)
    (after o three (number d) (after o two (field block) (after o (word "pivot") (field k) a b) c) e) f) g) h) i) j

pub pivot-at : (o : List ℕ) {p : List ℕ} (d sub amounts : List Float) (blocks lifts tests : List ℕ) (k block lift test : ℕ) → block ≡ get_or blocks k 0
    → lift ≡ get_or lifts k 0 → test ≡ get_or tests k 0
    → p ≡ o ++ pivot_line k block (get_or d k nan) (get_or sub k nan) lift (get_or amounts k nan) test
    → p ≡ o ++ pivot_at d sub blocks lifts amounts tests k
unfolding pivot_at vec naturals
pivot-at o d sub amounts blocks lifts tests k block lift test e f g w = rw (e, f, g) at w

-- ---- one after another

pub each_none : (f : ℕ → List ℕ) (xs : List ℕ) → xs ≡ xs ++ each f 0
unfolding each
each_none f xs = sym (append-nil xs)

pub each_step : (f : ℕ → List ℕ) (i : ℕ) (xs ys : List ℕ) {zs : List ℕ} → ys ≡ xs ++ each f i → zs ≡ ys ++ f i → zs ≡ xs ++ each f (i + 1)
unfolding each
each_step f i xs ys v w = rw (add-one i) (after xs (each f i) (f i) v w)

pub places-step : (order : List ℕ) (i : ℕ) (xs ys : List ℕ) {zs : List ℕ} → ys ≡ xs ++ each (order_field order) i
    → zs ≡ ys ++ field (get_or order i 0) → zs ≡ xs ++ each (order_field order) (i + 1)
unfolding order_field naturals
places-step order i xs ys v w = each_step (order_field order) i xs ys v w

pub entries-step : (nrow : ℕ) (panel : List Float) (i j : ℕ) (x : Float) (xs ys : List ℕ) {zs : List ℕ} → x ≡ view nrow panel i j
    → ys ≡ xs ++ each (entry_field nrow panel i) j → zs ≡ ys ++ number x → zs ≡ xs ++ each (entry_field nrow panel i) (j + 1)
unfolding entry_field
entries-step nrow panel i j x xs ys e v w = each_step (entry_field nrow panel i) j xs ys v (rw (← e) w)

-- ---- marks

pub mark-some : (xs : List ℕ) {ys : List ℕ} (ncol : ℕ) (marks : List ℕ) (i mark : ℕ) → ncol ≤ i → mark ≡ get_or marks (i - ncol) 0 → ys ≡ xs ++ field mark
    → ys ≡ xs ++ mark_field ncol marks i
unfolding mark_field naturals
mark-some xs ncol marks i mark h e w = rw (le-ltb i ncol h, ← e) w
