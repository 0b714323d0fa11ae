-- Laws of the update call: the panel from the rows that were applied, and what the call leaves.
-- Assumes nothing.
use mathlib.Core.Path.{◌≡◌, refl, sym, ◌∙◌, ap}
use mathlib.Core.Bool.{true, false, cond, not, ◌&&◌}
use mathlib.Core.List.{List}
use Prim.Native.Nat.{ℕ, ◌+◌, ◌-◌, ◌≤◌, ◌<◌}
use native.Mathlib.Omega.{arith}
use borrow.Author.Tests.{lt-ltb, le-leb, lt-leb, eqb-true, ltb-true, ltb-false, leb-true, leb-false}
use lib.Dec.{leb, ltb}
use lib.ListN.{length}
use lib.Ieee.{Float}
use Rattle.std.specs.Prelude.{Ok, Err}
use Rattle.model.specs.Sizes.{most_rows}
use Rattle.model.specs.Matrix.{Mat, view, naturals, column_major}
use Rattle.model.specs.Inertia.{check_bytes}
use Rattle.model.specs.Assembly.{first_not, Panelled}
use Rattle.model.specs.Update.{Target, Descendant, update_sound, rising, begins_at, place_from, absent_from}
use Rattle.model.specs.Update.{descendant_sound, number_at, update_check, updated, update_of}
use Rattle.model.specs.Answer.{Check, or_else, refuse_if}
use Rattle.model.specs.declared.Refusal.{Refusal}
use Rattle.model.specs.declared.Refusal.TheVariants.{UpdateLength, TargetRows, DescendantRows, AbsentRow}
use Rattle.model.proofs.Cases.{test, cmp, and_left, and_right}
use Rattle.model.proofs.Entry.{first-sound, second-sound, not-refused}
use Rattle.model.proofs.Tabulated.{is-column_major}
use Rattle.model.proofs.Every.{every-at}
use Rattle.checks.specs.Answers.{leaves}
use Rattle.checks.proofs.Answers.{first-refuses, second-decides, leaves-done, leaves-refused}
use Rattle.landing.specs.Rows.{rises_at, stands_at, lands_on, lands_at, first_from, there_at, LocatePre, Located}
use Rattle.landing.proofs.Scans.{First, first-is, place-all}
use Rattle.landing.proofs.Absent.{absent-is}
use Rattle.landing.proofs.Order.{Rising, rising-is, rising-one, rising-place}
use Rattle.update_checks.specs.Lists.{lists_check, Sizes}
use Rattle.update_checks.proofs.Listed.{sizes}
use Rattle.update_rows.specs.Apply.{rows_applied}
use Rattle.update_rows.proofs.Closed.{Inverse, Lands, rows-hit, rows-miss}
use Rattle.update.specs.Call.{columns_check, updated_panel, columns_of, ListsPre}

-- ---- the panel: `start` is the first landing row, `places` where the rows from there on stand

module _ (t : Target) (k : Descendant) (len : ℕ) (w : ListsPre t k len) where
  abbrev at : ℕ → ℕ
  at i = place_from (naturals k.rows) (naturals t.rows i) k.mk 0

  target-rises : Rising (naturals t.rows) t.nrow
  target-rises = rw w.sizes.target at (rising-is (naturals t.rows) (length t.rows) w.target)

  descendant-rises : Rising (naturals k.rows) k.mk
  descendant-rises = rw w.sizes.descendant at (rising-is (naturals k.rows) (length k.rows) w.descendant)

  -- column q's row, and the descendant's row that it is
  column-row : (q : ℕ) → q < t.ncol → naturals t.rows q ≡ t.first + q
  unfolding stands_at
  column-row q h =
      let z : 0 + q ≡ q = omega arith in
      eqb-true (naturals t.rows q) (t.first + q) (rw z at (every-at (stands_at t.first (naturals t.rows)) t.ncol 0 q w.columns h))

  found : (i : ℕ) → at i < k.mk → naturals k.rows (at i) ≡ naturals t.rows i
  found i h = (place-all (naturals k.rows) (naturals t.rows i) k.mk).here h

  found_at : (i r : ℕ) → r < k.mk → naturals k.rows r ≡ naturals t.rows i → at i ≡ r
  found_at i r h e =
      ap (λ (g : ℕ). place_from (naturals k.rows) g k.mk 0) (sym e) ∙ rising-place (naturals k.rows) k.mk descendant-rises r h

  column-lands : (c q : ℕ) → q < t.ncol → naturals k.rows c ≡ naturals t.rows q
      → (lands_on t.first t.ncol (naturals k.rows c) ≡ true) × (naturals k.rows c - t.first ≡ q)
  unfolding lands_on
  column-lands c q h e =
      let z : naturals k.rows c ≡ t.first + q = e ∙ column-row q h in
      (rw (le-leb t.first (naturals k.rows c) (omega arith), lt-ltb (naturals k.rows c) (t.first + t.ncol) (omega arith)), omega arith)

  lands : (lo : ℕ) → Lands t.first t.ncol (naturals k.rows) at lo k.mk
  unfolding lands_on
  lands lo = record {
    on = λ c q l h x e. column-lands c q x (ap (naturals k.rows) (sym e) ∙ found q (omega arith));
    only = λ c q l h x y e.
        let z : t.first ≤ naturals k.rows c
        = leb-true t.first (naturals k.rows c) (and_left (leb t.first (naturals k.rows c)) (ltb (naturals k.rows c) (t.first + t.ncol)) y) in
        found_at q c h (omega (arith, column-row q x));
  }

  -- ---- what its functions ask

  pub locate-pre : (start room : ℕ) → start ≡ first_from (lands_at t.first t.ncol (naturals k.rows)) (length k.rows) 0 → room ≡ most_rows
      → LocatePre t.rows k.rows start room
  locate-pre start room e r = record {
    target = w.target;
    descendant = w.descendant;
    begin = omega (arith, (rw (← e) at (first-is (lands_at t.first t.ncol (naturals k.rows)) (length k.rows) 0)).high);
    fits = omega (arith, w.sizes.all, w.sizes.descendant);
    few = omega (arith, w.sizes.rows, w.sizes.target);
  }

  module _ (start : ℕ) (e : start ≡ first_from (lands_at t.first t.ncol (naturals k.rows)) (length k.rows) 0) (places : List ℕ)
      (d : Located t.rows k.rows start (length k.rows) places) where
    inverse : Inverse t.nrow start k.mk (naturals places) at
    inverse = record {
      there = λ r l h. found_at (naturals places r) r h (sym (d.same r l (omega (arith, w.sizes.descendant))));
      back = λ p h l m. rising-one (naturals t.rows) t.nrow target-rises (naturals places (at p)) p
          (omega (arith, w.sizes.target, d.inside (at p) l (omega (arith, w.sizes.descendant)))) h
          (d.same (at p) l (omega (arith, w.sizes.descendant)) ∙ found p m);
    }

    first : First (lands_at t.first t.ncol (naturals k.rows)) 0 (0 + length k.rows) start
    first = rw e (first-is (lands_at t.first t.ncol (naturals k.rows)) (length k.rows) 0)

    -- a column whose row is one of the descendant's is not before the first landing
    from_start : (j : ℕ) → j < t.ncol → at j < k.mk → start ≤ at j
    unfolding lands_at
    from_start j h m =
        test (ltb (at j) start)
        (λ x. absurd (let y : true ≡ false = sym (column-lands (at j) j h (found j m)).0 ∙ first.before (at j) (omega arith) (ltb-true (at j) start x) in
        let z : ◌≡◌ {A = ℕ} 0 1 = cc in omega arith))
        (λ x. ltb-false (at j) start x)

    start-within : start ≤ k.mk
    start-within = omega (arith, w.sizes.descendant, first.high)

    entry-is : (a : Mat) (i j : ℕ) → i < t.nrow → j < t.ncol
        → rows_applied t.first t.ncol k (naturals places) (k.mk - start) start a i j ≡ updated t k a i j
    unfolding updated
    entry-is a i j h l =
        let miss : (at j ≤ at i → at i < k.mk → ⊥) → rows_applied t.first t.ncol k (naturals places) (k.mk - start) start a i j ≡ a i j
        = λ z. rows-miss t.first t.ncol t.nrow k start (naturals places) at inverse (lands start) (k.mk - start) start i j a
        (omega arith) (omega (arith, start-within)) h l (λ x y. z) in
        rw (le-leb 1 k.nk w.some) (test (ltb (at i) k.mk)
        (λ x. test (leb (at j) (at i))
        (λ y. let m : at i < k.mk = ltb-true (at i) k.mk x in
        let n : at j ≤ at i = leb-true (at j) (at i) y in
        rw (x, y) (rows-hit t.first t.ncol t.nrow k start (naturals places) at inverse (lands start) (k.mk - start) start i j a
        (omega arith) (omega (arith, start-within)) h l (from_start j l (omega arith)) (omega (arith, start-within)) n m))
        (λ y. rw (x, y) (miss (λ n m. omega (arith, leb-false (at j) (at i) y)))))
        (λ x. rw x (miss (λ n m. omega (arith, ltb-false (at i) k.mk x)))))

    pub panel-is : (new panel : List Float) → length new ≡ length panel → length panel ≡ len
        → view t.nrow new ≡ rows_applied t.first t.ncol k (naturals places) (k.mk - start) start (view t.nrow panel) → new ≡ updated_panel t k panel
    unfolding updated_panel
    panel-is new panel l m v =
        is-column_major t.nrow t.ncol (updated t k (view t.nrow panel)) new (l ∙ m ∙ w.sizes.area)
        (λ i j h x. ap (λ (a : Mat). a i j) v ∙ entry-is (view t.nrow panel) i j h x)

-- ---- refusals 17 and 18: f and g are what their scans answer

module _ (t : Target) (k : Descendant) (panel : List Float) (w : ListsPre t k (length panel)) (start : ℕ)
    (e : start ≡ first_from (lands_at t.first t.ncol (naturals k.rows)) (length k.rows) 0) (f : Check)
    (x : f ≡ first_not (there_at t.rows (naturals k.rows)) AbsentRow (length k.rows - start) start) where
  absent : Check
  absent = cond (leb 1 k.nk) (absent_from t (naturals k.rows) k.mk 0 (not true)) (Ok tt)

  absent-says : f ≡ absent
  unfolding absent
  absent-says =
      let n : length k.rows ≡ k.mk = w.sizes.descendant in
      x ∙ sym (rw (le-leb 1 k.nk w.some) (absent-is t (naturals k.rows) w.sizes.target k.mk start (rw n at e) ∙ rw n))

  pub columns-absent : (r : Refusal) (a : Check) → f ≡ Err r → a ≡ f
      → leaves a panel ≡ columns_of t k panel
  unfolding columns_of columns_check absent
  columns-absent r a h y = leaves-refused f r (columns_check t k) a (updated_panel t k panel) panel h (first-refuses f r absent _ h absent-says) y

  module _ (g : Check) (h : f ≡ Ok tt) (z : g ≡ first_not (descendant_sound k) number_at k.nk 0) where
    columns-says : g ≡ columns_check t k
    unfolding columns_check absent
    columns-says = second-decides f g absent _ h absent-says z

    pub columns-number : (r : Refusal) (a : Check) → g ≡ Err r → a ≡ g
        → leaves a panel ≡ columns_of t k panel
    unfolding columns_of
    columns-number r a i y = leaves-refused g r (columns_check t k) a (updated_panel t k panel) panel i columns-says y

    pub columns-done : (new : List Float) → g ≡ Ok tt → new ≡ updated_panel t k panel
        → leaves (Ok tt) new ≡ columns_of t k panel
    unfolding columns_of
    columns-done new i y = ap (leaves (Ok tt)) y ∙ leaves-done g (columns_check t k) (updated_panel t k panel) panel i columns-says

-- ---- the call: f is what refusals 13 to 16 answer

four : (a b c d e : Check) → or_else a (or_else b (or_else c (or_else d e))) ≡ or_else (or_else a (or_else b (or_else c d))) e
four (Err r) b c d e = refl
four (Ok u) (Err r) c d e = refl
four (Ok u) (Ok v) (Err r) d e = refl
four (Ok u) (Ok v) (Ok w) d e = refl

check-is : (t : Target) (k : Descendant) (panel : List Float) → update_check t k panel ≡ or_else (lists_check t k panel) (columns_check t k)
unfolding update_check lists_check columns_check
check-is t k panel =
    four (refuse_if (not (update_sound t k panel)) UpdateLength)
    (refuse_if (not (rising (naturals t.rows) t.nrow && begins_at t.first (naturals t.rows) t.ncol)) TargetRows)
    (refuse_if (not (rising (naturals k.rows) k.mk)) DescendantRows) (check_bytes k.blocks) (columns_check t k)

-- a descendant with no columns meets neither 17 nor 18, and changes nothing
none-check : (t : Target) (k : Descendant) → k.nk ≡ 0 → columns_check t k ≡ Ok tt
unfolding columns_check first_not
none-check t k z = rw z

none-changed : (t : Target) (k : Descendant) (a : Mat) (i j : ℕ) → k.nk ≡ 0 → a i j ≡ updated t k a i j
unfolding updated
none-changed t k a i j z = rw (lt-leb 1 k.nk (omega arith))

module _ (t : Target) (k : Descendant) (panel : List Float) (f : Check) (x : f ≡ lists_check t k panel) where
  pub update-refuses : (r : Refusal) (a : Check) → f ≡ Err r → a ≡ f
      → leaves a panel ≡ update_of t k panel
  unfolding update_of
  update-refuses r a h y =
      leaves-refused f r (update_check t k panel) a _ panel h (first-refuses f r (lists_check t k panel) (columns_check t k) h x ∙ sym (check-is t k panel)) y

  module _ (h : f ≡ Ok tt) where
    passes : lists_check t k panel ≡ Ok tt
    passes = sym x ∙ h

    check-columns : update_check t k panel ≡ columns_check t k
    check-columns = check-is t k panel ∙ rw passes

    lists-sizes : Sizes t k (length panel)
    unfolding lists_check
    lists-sizes =
        let pass : lists_check t k panel ≡ Ok tt = passes in
        sizes t k panel (not-refused (update_sound t k panel) UpdateLength (search (first-sound, second-sound)))

    pub lists-pre : (k.nk ≡ 0 → ⊥) → ListsPre t k (length panel)
    unfolding lists_check rises_at stands_at
    lists-pre n =
        let pass : lists_check t k panel ≡ Ok tt = passes in
        let s : Sizes t k (length panel) = lists-sizes in
        let rises = rising (naturals t.rows) t.nrow in
        let begins = begins_at t.first (naturals t.rows) t.ncol in
        let both : rises && begins ≡ true = not-refused (rises && begins) TargetRows (search (first-sound, second-sound)) in
        record {
          some = cmp 0 k.nk (λ l. omega arith) (λ z. absurd (n (sym z))) (λ l. omega arith);
          sizes = s;
          target = rw s.target (and_left rises begins both);
          columns = and_right rises begins both;
          descendant = rw s.descendant (not-refused (rising (naturals k.rows) k.mk) DescendantRows (search (first-sound, second-sound)));
          check = search (first-sound, second-sound);
        }

    pub update-none : k.nk ≡ 0 → leaves (Ok tt) panel ≡ update_of t k panel
    unfolding update_of
    update-none z =
        let same : panel ≡ column_major t.nrow t.ncol (updated t k (view t.nrow panel))
        = is-column_major t.nrow t.ncol (updated t k (view t.nrow panel)) panel lists-sizes.area
        (λ i j _ _. none-changed t k (view t.nrow panel) i j z) in
        ap (leaves (Ok tt)) same ∙ sym (rw (check-columns ∙ none-check t k z))

    pub update-columns : (a : Panelled) → a ≡ columns_of t k panel → a ≡ update_of t k panel
    unfolding update_of columns_of updated_panel
    update-columns a y = y ∙ rw check-columns
