-- Laws of refusals 13 to 16 and 18: where each test leads, and what the lists are past them. Assumes nothing.
use mathlib.Core.Path.{◌≡◌, refl, sym, ◌∙◌}
use mathlib.Core.Bool.{Bool, true, false, not, ◌&&◌, ◌||◌}
use mathlib.Core.List.{List}
use Prim.Native.Nat.{ℕ, ◌+◌, ◌-◌, ◌*◌, ◌≤◌}
use native.Mathlib.Omega.{arith}
use borrow.Author.Tests.{le-leb, lt-leb, leb-true, leb-false, eqb-true}
use lib.Dec.{leb, eqb}
use lib.ListN.{length}
use lib.Ieee.{Float}
use Rattle.std.specs.Prelude.{Err}
use Rattle.model.specs.Sizes.{most_columns, most_rows}
use Rattle.model.specs.Scalar.{is_finite}
use Rattle.model.specs.Matrix.{view, vec, naturals}
use Rattle.model.specs.Step.{begins}
use Rattle.model.specs.Factor.{shape_sound, every_from}
use Rattle.model.specs.Inertia.{check_bytes}
use Rattle.model.specs.Update.{Target, Descendant, update_sound, rising, begins_at, descendant_sound}
use Rattle.model.specs.declared.Refusal.TheVariants.{UpdateLength, TargetRows, DescendantRows}
use Rattle.model.specs.Answer.{Check}
use Rattle.model.proofs.Cases.{test, and_left, and_right}
use Rattle.total.specs.Finite.{column_finite}
use Rattle.landing.specs.Rows.{rises_at, stands_at, ColumnsPre}
use Rattle.update_checks.specs.Lists.{lists_check, Sizes}

-- ---- the stated lengths fit a machine word, once the descendant's sizes are sound

module _ (nk mk : ℕ) (s : leb nk most_columns && leb mk most_rows ≡ true) where
  columns-few : nk ≤ most_columns
  columns-few = leb-true nk most_columns (and_left (leb nk most_columns) (leb mk most_rows) s)

-- ---- refusal 13: b is the shape's test

module _ (t : Target) (k : Descendant) (panel : List Float) (b : Bool) (h : b ≡ shape_sound t.ncol t.nrow) where
  pub lengths-shape : b ≡ false → false ≡ update_sound t k panel
  unfolding update_sound
  lengths-shape x = rw (← h, x)

  module _ (x : b ≡ true) where
    pub lengths-sizes : leb k.nk most_columns && leb k.mk most_rows ≡ false → false ≡ update_sound t k panel
    unfolding update_sound
    lengths-sizes y =
        rw (← h, x) (test (leb k.nk most_columns)
        (λ l. let m : leb k.mk most_rows ≡ false = rw l at y in
        rw (l, lt-leb (k.nk + k.mk) most_rows (omega (arith, leb-false k.mk most_rows m))))
        (λ l. rw l))

    pub lengths-rest : leb k.nk most_columns && leb k.mk most_rows ≡ true →
        leb (k.nk + k.mk) most_rows && (eqb (length panel) (t.nrow * t.ncol) && (eqb (length t.rows) t.nrow
        && (eqb (length k.panel) ((k.nk + k.mk) * k.nk) && (eqb (length k.d) k.nk && (eqb (length k.sub) k.nk
        && (eqb (length k.blocks) k.nk && eqb (length k.rows) k.mk)))))) ≡ update_sound t k panel
    unfolding update_sound
    lengths-rest y = rw (← h, x, le-leb k.nk most_columns (columns-few k.nk k.mk y))

-- ---- past refusal 13

pub sizes : (t : Target) (k : Descendant) (panel : List Float) → update_sound t k panel ≡ true → Sizes t k (length panel)
unfolding update_sound
sizes t k panel h =
    record {
      columns = leb-true t.ncol most_columns (search (and_left, and_right));
      rows = leb-true t.nrow most_rows (search (and_left, and_right));
      head = leb-true t.ncol t.nrow (search (and_left, and_right));
      few = leb-true k.nk most_columns (search (and_left, and_right));
      all = leb-true (k.nk + k.mk) most_rows (search (and_left, and_right));
      area = eqb-true (length panel) (t.nrow * t.ncol) (search (and_left, and_right));
      target = eqb-true (length t.rows) t.nrow (search (and_left, and_right) depth 12);
      numbers = eqb-true (length k.panel) ((k.nk + k.mk) * k.nk) (search (and_left, and_right) depth 12);
      pivots = eqb-true (length k.d) k.nk (search (and_left, and_right) depth 12);
      subdiagonal = eqb-true (length k.sub) k.nk (search (and_left, and_right) depth 12);
      bytes = eqb-true (length k.blocks) k.nk (search (and_left, and_right) depth 12);
      descendant = eqb-true (length k.rows) k.mk (search (and_left, and_right) depth 12);
    }

-- ---- refusals 13 to 16 in turn: b, c and d are the answers of the tests of 13, 14 and 15

module _ (t : Target) (k : Descendant) (panel : List Float) (b : Bool) (h : b ≡ update_sound t k panel) where
  pub lists-lengths : b ≡ false → Err UpdateLength ≡ lists_check t k panel
  unfolding lists_check
  lists-lengths x = rw (← h, x)

  module _ (x : b ≡ true) where
    passed : Sizes t k (length panel)
    passed = sizes t k panel (sym h ∙ x)

    pub lists-columns : ColumnsPre t.ncol (length t.rows)
    lists-columns = record { few = omega (arith, passed.columns); there = omega (arith, passed.target, passed.head) }

    module _ (c : Bool) (i : c ≡ (every_from (rises_at (naturals t.rows) (length t.rows)) (length t.rows) 0
        && every_from (stands_at t.first (naturals t.rows)) t.ncol 0)) where
      target-test : c ≡ (rising (naturals t.rows) t.nrow && begins_at t.first (naturals t.rows) t.ncol)
      unfolding rises_at stands_at
      target-test = rw passed.target at i

      pub lists-target : c ≡ false → Err TargetRows ≡ lists_check t k panel
      unfolding lists_check
      lists-target y = rw (← h, x, ← target-test, y)

      module _ (y : c ≡ true) (d : Bool) (j : d ≡ every_from (rises_at (naturals k.rows) (length k.rows)) (length k.rows) 0) where
        descendant-test : d ≡ rising (naturals k.rows) k.mk
        unfolding rises_at
        descendant-test = rw passed.descendant at j

        pub lists-descendant : d ≡ false → Err DescendantRows ≡ lists_check t k panel
        unfolding lists_check
        lists-descendant z = rw (← h, x, ← target-test, y, ← descendant-test, z)

        pub lists-bytes : (r : Check) → d ≡ true → r ≡ check_bytes k.blocks → r ≡ lists_check t k panel
        unfolding lists_check
        lists-bytes r z e = rw (← h, x, ← target-test, y, ← descendant-test, z) e

-- ---- refusal 18: b is the test of d, e of the subdiagonal, f of the numbers below the head

module _ (k : Descendant) (c : ℕ) (b : Bool) (h : b ≡ is_finite (vec k.d c)) where
  pub column-d : b ≡ false → false ≡ descendant_sound k c
  unfolding descendant_sound
  column-d x = rw (← h, x)

  module _ (x : b ≡ true) (e : Bool) (g : e ≡ is_finite (vec k.sub c)) where
    under : (s e : Bool) → s && not e ≡ true → not s || e ≡ false
    under true true y = sym y
    under true false y = refl
    under false e y = absurd (let z : ◌≡◌ {A = ℕ} 0 1 = cc in omega arith)

    over : (s e : Bool) → s && not e ≡ false → not s || e ≡ true
    over true true y = refl
    over true false y = absurd (let z : ◌≡◌ {A = ℕ} 0 1 = cc in omega arith)
    over false e y = refl

    pub column-sub : begins (naturals k.blocks) c && not e ≡ true → false ≡ descendant_sound k c
    unfolding descendant_sound
    column-sub y = rw (← h, x, ← g, under (begins (naturals k.blocks) c) e y)

    pub column-rest : (f : Bool) → begins (naturals k.blocks) c && not e ≡ false
        → f ≡ column_finite (view (k.nk + k.mk) k.panel) c k.nk (k.nk + k.mk)
        → f ≡ descendant_sound k c
    unfolding descendant_sound column_finite
    column-rest f y i =
        let m : k.nk + k.mk - k.nk ≡ k.mk = omega arith in
        rw (← h, x, ← g, over (begins (naturals k.blocks) c) e y) (rw m at i)
