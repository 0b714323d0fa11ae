-- Laws of the assembly call: its checks in turn, the entries one by one, and what it leaves. Assumes nothing.
use mathlib.Core.Path.{◌≡◌, refl, sym, ◌∙◌, ap}
use mathlib.Core.Bool.{Bool, true, false, not, ◌&&◌}
use mathlib.Core.List.{List, [], ◌∷◌}
use Prim.Native.Nat.{ℕ, suc, ◌+◌, ◌-◌, ◌*◌, ◌≤◌, ◌<◌}
use native.Mathlib.Omega.{arith}
use borrow.Author.Tests.{eqb-true, ltb-true}
use lib.Dec.{leb, ltb}
use lib.ListN.{length, get_or, set}
use lib.Ieee.{Float, nan}
use Rattle.std.specs.Prelude.{Option, Ok, Err}
use Rattle.std.specs.List.{position_from, zip}
use Rattle.model.specs.Scalar.{◌⊕◌}
use Rattle.model.specs.Matrix.{Row, Mat, column_start, view, vec, naturals, column_major}
use Rattle.model.specs.Assembly.{Entries, entries_sound, first_not, place_sound, assembly_check, added_at, assembled_from, assembly_of}
use Rattle.model.specs.declared.Refusal.{Refusal}
use Rattle.model.specs.declared.Refusal.TheVariants.{AssemblyLength, AssemblyPlace, AssemblyNumber}
use Rattle.model.specs.Answer.{Check}
use Rattle.model.proofs.Cases.{test, and_left, and_right}
use Rattle.model.proofs.Entry.{first-sound, second-sound, not-refused}
use Rattle.model.proofs.Tabulated.{is-column_major}
use Rattle.grid.specs.Grid.{In}
use Rattle.grid.proofs.Laws.{in-panel, own-set}
use Rattle.checks.specs.Answers.{leaves}
use Rattle.checks.specs.Finite.{finite_at, refused_at}
use Rattle.checks.proofs.Answers.{first-refuses, second-decides, leaves-done, leaves-refused}
use Rattle.model.proofs.Every.{first-all}
use Rattle.assembly.specs.Call.{AddPre}

-- ---- refusal 10

-- what the lists' lengths are past it
pub record Lengths (ncol nrow : ℕ) (es : Entries) (panel : List Float) : Type 0 where
  pub cols : length es.cols ≡ length es.rows
  pub numbers : length es.numbers ≡ length es.rows
  pub area : length panel ≡ nrow * ncol

pub lengths : (ncol nrow : ℕ) (es : Entries) (panel : List Float) → entries_sound ncol nrow es panel ≡ true → Lengths ncol nrow es panel
unfolding entries_sound
lengths ncol nrow es panel h = record {
  cols = eqb-true (length es.cols) (length es.rows) (search (and_left, and_right));
  numbers = eqb-true (length es.numbers) (length es.rows) (search (and_left, and_right));
  area = eqb-true (length panel) (nrow * ncol) (search (and_left, and_right));
}

-- ---- refusal 11: the first of the listed places that is not in the panel's lower part

places-from : (inside : ℕ → ℕ → Bool) (f : ℕ → Bool) (at : ℕ → Refusal) (is js : List ℕ) (k : ℕ) → length js ≡ length is
    → ((i : ℕ) → i < length is → f (k + i) ≡ inside (get_or is i 0) (get_or js i 0))
    → refused_at at (position_from (λ p. not (inside p.0 p.1)) k (zip is js)) ≡ first_not f at (length is) k
unfolding first_not
places-from inside f at [] js k e h = refl
places-from inside f at (x ∷ is) [] k e h = absurd (omega arith)
places-from inside f at (x ∷ is) (y ∷ js) k e h =
    let here : f k ≡ inside x y = ap f (omega arith) ∙ h 0 (omega arith) in
    let later = places-from inside f at is js (k + 1) (omega arith) (λ i l. ap f (omega arith) ∙ h (suc i) (omega arith)) in
    test (inside x y)
    (λ t. rw (here, t) later)
    (λ t. rw (here, t))

abbrev pub lower : (ncol nrow : ℕ) → ℕ → ℕ → Bool
lower ncol nrow i j = ltb i nrow && (ltb j ncol && leb j i)

pub places-scan : (ncol nrow : ℕ) (is js : List ℕ) → length js ≡ length is
    → refused_at AssemblyPlace (position_from (λ p. not (lower ncol nrow p.0 p.1)) 0 (zip is js))
    ≡ first_not (place_sound ncol nrow (naturals is) (naturals js)) AssemblyPlace (length is) 0
unfolding place_sound naturals
places-scan ncol nrow is js e =
    places-from (lower ncol nrow) (place_sound ncol nrow (naturals is) (naturals js)) AssemblyPlace is js 0 e
    (λ i l. ap (place_sound ncol nrow (naturals is) (naturals js)) (omega arith))

-- ---- the checks in turn: b is the answer of refusal 10's test, k of refusal 11's scan, l the place that refusal 12's scan found

module _ (ncol nrow : ℕ) (es : Entries) (panel : List Float) where
  abbrev places_check : Check
  places_check = first_not (place_sound ncol nrow (naturals es.rows) (naturals es.cols)) AssemblyPlace (length es.rows) 0

  module _ (b : Bool) (h : b ≡ entries_sound ncol nrow es panel) where
    pub check-lengths : b ≡ false → Err AssemblyLength ≡ assembly_check ncol nrow es panel
    unfolding assembly_check
    check-lengths x = rw (← h, x)

    pub check-columns : b ≡ true → length es.cols ≡ length es.rows
    check-columns x = (lengths ncol nrow es panel (sym h ∙ x)).cols

    module _ (k : Check) (x : b ≡ true) (e : k ≡ places_check) where
      pub check-places : (r : Refusal) → k ≡ Err r → k ≡ assembly_check ncol nrow es panel
      unfolding assembly_check
      check-places r y = rw (← h, x) (first-refuses k r places_check _ y e)

      pub check-numbers : (l : Option ℕ) → k ≡ Ok tt → ((at : ℕ → Refusal) → refused_at at l ≡ first_not (finite_at es.numbers) at (length es.numbers) 0)
          → refused_at AssemblyNumber l ≡ assembly_check ncol nrow es panel
      unfolding assembly_check finite_at
      check-numbers l y f =
          let n : length es.numbers ≡ length es.rows = (lengths ncol nrow es panel (sym h ∙ x)).numbers in
          rw (← h, x) (second-decides k (refused_at AssemblyNumber l) places_check _ y e (rw n at (f AssemblyNumber)))

-- ---- the entries

pub added-set : (n : ℕ) (xs : List Float) (i j s : ℕ) (v : Float) → s ≡ column_start n j → In n i j (length xs)
    → view n (set xs (i + s) (get_or xs (i + s) nan ⊕ v)) ≡ added_at (view n xs) i j v
unfolding added_at
added-set n xs i j s v at h = rw at (own-set n xs i j (λ x. x ⊕ v) h)

pub place_in : (n : ℕ) (is js : List ℕ) (xs : List Float) (k len m : ℕ) → AddPre n is js xs len → k < length is → m ≡ len
    → In n (naturals is k) (naturals js k) m
place_in n is js xs k len m w h e = rw e (w.places k h)

module _ (rows cols : ℕ → ℕ) (numbers : Row) (n : ℕ) where
  pub entries-step : (k : ℕ) (a b w : Mat) → k < n → b ≡ added_at a (rows k) (cols k) (numbers k) → assembled_from rows cols numbers (n - k) k a ≡ w
      → assembled_from rows cols numbers (n - (k + 1)) (k + 1) b ≡ w
  unfolding assembled_from
  entries-step k a b w h e f = let m : n - k ≡ suc (n - (k + 1)) = omega arith in rw e (rw m at f)

  pub entries-end : (k : ℕ) (a w : Mat) → n ≤ k → assembled_from rows cols numbers (n - k) k a ≡ w → a ≡ w
  unfolding assembled_from
  entries-end k a w h f = let m : n - k ≡ 0 = omega arith in rw m at f

-- ---- the call: k is what its checks answer

module _ (ncol nrow : ℕ) (es : Entries) (panel : List Float) (k : Check) (e : k ≡ assembly_check ncol nrow es panel) where
  checked-lengths : k ≡ Ok tt → Lengths ncol nrow es panel
  unfolding assembly_check
  checked-lengths h =
      let pass : assembly_check ncol nrow es panel ≡ Ok tt = sym e ∙ h in
      lengths ncol nrow es panel (not-refused (entries_sound ncol nrow es panel) AssemblyLength (search (first-sound, second-sound)))

  pub checked-entries : k ≡ Ok tt → AddPre nrow es.rows es.cols es.numbers (length panel)
  unfolding assembly_check place_sound
  checked-entries h =
      let pass : assembly_check ncol nrow es panel ≡ Ok tt = sym e ∙ h in
      let all : places_check ncol nrow es panel ≡ Ok tt = search (first-sound, second-sound) in
      let l : Lengths ncol nrow es panel = checked-lengths h in
      record {
        columns = l.cols;
        numbers = l.numbers;
        places = λ i m.
            let in-lower : place_sound ncol nrow (naturals es.rows) (naturals es.cols) i ≡ true
            = first-all (place_sound ncol nrow (naturals es.rows) (naturals es.cols)) AssemblyPlace (length es.rows) i all m in
            in-panel nrow ncol (naturals es.rows i) (naturals es.cols i) (length panel) l.area
            (ltb-true (naturals es.rows i) nrow (search (and_left, and_right))) (ltb-true (naturals es.cols i) ncol (search (and_left, and_right)));
      }

  pub assembly-done : (new : List Float) → k ≡ Ok tt → length new ≡ length panel
      → view nrow new ≡ assembled_from (naturals es.rows) (naturals es.cols) (vec es.numbers) (length es.rows) 0 (view nrow panel)
      → leaves (Ok tt) new ≡ assembly_of ncol nrow es panel
  unfolding assembly_of
  assembly-done new h l v =
      let a = assembled_from (naturals es.rows) (naturals es.cols) (vec es.numbers) (length es.rows) 0 (view nrow panel) in
      let is : new ≡ column_major nrow ncol a
      = is-column_major nrow ncol a new (l ∙ (checked-lengths h).area) (λ i j _ _. ap (λ (m : Mat). m i j) v) in
      ap (leaves (Ok tt)) is ∙ leaves-done k (assembly_check ncol nrow es panel) (column_major nrow ncol a) panel h e

  pub assembly-refuses : (r : Refusal) (a : Check) → k ≡ Err r → a ≡ k → leaves a panel ≡ assembly_of ncol nrow es panel
  unfolding assembly_of
  assembly-refuses r a h f = leaves-refused k r (assembly_check ncol nrow es panel) a _ panel h e f
