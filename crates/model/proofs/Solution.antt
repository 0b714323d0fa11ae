-- What an accepted factor call leaves meets no refusal of solve but for the vector; solve reads the entries of L alone; a renumbered right side comes back
-- renumbered. Assumes nothing.
use mathlib.Core.Path.{◌≡◌, refl, ◌∙◌, ap, fun_ext}
use mathlib.Core.Bool.{true, not}
use mathlib.Core.List.{List}
use Prim.Native.Nat.{ℕ, zero, suc, ◌+◌, ◌-◌, ◌*◌, ◌≤◌, ◌<◌}
use native.Mathlib.Omega.{arith}
use borrow.Author.Tests.{eq-eqb, ne_eqb, le-leb, eqb-true, eqb-false}
use lib.Dec.{eqb}
use lib.ListN.{length}
use lib.Ieee.{Float}
use Rattle.std.specs.Prelude.{Ok}
use Rattle.model.specs.Sizes.{most_columns, most_rows}
use Rattle.model.specs.Scalar.{◌⊗◌}
use Rattle.model.specs.Matrix.{Row, Mat, view, vec, naturals, put, tabulate}
use Rattle.model.specs.Step.{Diagonals, diagonals_of}
use Rattle.model.specs.Factor.{Outcome, shape_sound, after_head, stands}
use Rattle.model.specs.Answer.{or_else, refuse_if}
use Rattle.model.specs.Inertia.{check_bytes}
use Rattle.model.specs.Solve.{Factor, solve_lengths, check_order, check_right_side, solve_check, has_entry}
use Rattle.model.specs.Solve.{forward_at, forward_from, divided, back_at, back_from, substituted, ordered, returned_from, solution_of, solve_of, solved_after}
use Rattle.model.specs.Independence.{outcome_of}
use Rattle.model.specs.Solution.{left_in, RefusedForTheVectorAlone, ReadsEntriesAlone, ComesBackRenumbered}
use Rattle.model.specs.declared.Refusal.TheVariants.{BufferLength}
use Rattle.model.proofs.Cases.{test}
use Rattle.model.proofs.Order.{sound-order}
use Rattle.model.proofs.Tabulated.{length-tabulate_from}
use Rattle.model.proofs.Entry.{Passed, passed as entry-passed}
use Rattle.model.proofs.Terms.{earlier-there, later-there}
use Rattle.model.proofs.Accepted.{Accepted, accepted-is, accepted-leaves, accepted-bytes, Ordered, accepted-ordered}

-- ---- what an accepted factor call leaves

-- a root node whose shape, lengths, order and block bytes are sound: the vector is left to check
vector-alone : (n : ℕ) (f : Factor) (vector : List Float) → shape_sound n n ≡ true → length f.panel ≡ n * n → length f.d ≡ n → length f.sub ≡ n
    → length f.blocks ≡ n → length f.order ≡ n → check_order n (naturals f.order) ≡ Ok tt → check_bytes f.blocks ≡ Ok tt
    → solve_check n n f vector ≡ or_else (refuse_if (not (eqb (length vector) n)) BufferLength) (check_right_side n (vec vector))
unfolding solve_check solve_lengths
vector-alone n f vector shape panel d sub blocks order places bytes =
    rw (
      shape,
      eq-eqb n n refl,
      eq-eqb (length f.panel) (n * n) panel,
      eq-eqb (length f.d) n d,
      eq-eqb (length f.sub) n sub,
      eq-eqb (length f.blocks) n blocks,
      eq-eqb (length f.order) n order,
      places,
      bytes,
    )

pub refused-for-the-vector-alone : RefusedForTheVectorAlone
refused-for-the-vector-alone x r vector e square =
    let w : Accepted x = accepted-is x r e in
    let n = x.settings.ncol in
    let p : Passed x.settings x.input x.lent = entry-passed x.settings x.input x.lent w.entry in
    let o : Ordered n x.settings.nrow (outcome_of x).buffers.order = accepted-ordered x w in
    let left : outcome_of x ≡ after_head (stands w.state w.panels) x.settings (view x.settings.nrow x.input) x.lent = accepted-leaves x w in
    vector-alone n (left_in (outcome_of x).buffers) vector
    (rw (le-leb n most_columns p.few_columns, le-leb n most_rows (omega (arith, p.few_rows)), le-leb n n (omega arith)))
    (ap (λ (b : Outcome). length b.buffers.panel) left ∙ length-tabulate_from 0 (x.settings.nrow * n) _ ∙ ap (λ (m : ℕ). m * n) square)
    (ap (λ (b : Outcome). length b.buffers.d) left ∙ length-tabulate_from 0 n _)
    (ap (λ (b : Outcome). length b.buffers.sub) left ∙ length-tabulate_from 0 n _)
    (ap (λ (b : Outcome). length b.buffers.blocks) left ∙ length-tabulate_from 0 n _)
    (o.all ∙ square)
    (sound-order n (naturals (outcome_of x).buffers.order) (λ i h. omega (arith, o.inside i (omega arith)))
    (λ i j h g q. o.distinct i j (omega arith) (omega arith) q) n 0 (omega arith))
    (accepted-bytes x w)

-- ---- the entries of L alone

module _ (n : ℕ) (D : Diagonals) (l m : Mat) (same : (i j : ℕ) → i < n → has_entry D.blocks i j ≡ true → l i j ≡ m i j) where
  forward-there : (c k : ℕ) (y : Row) → k + c ≤ n → forward_from D.blocks l c k y ≡ forward_from D.blocks m c k y
  unfolding forward_from
  forward-there zero k y h = refl
  forward-there (suc c) k y h =
      let here : forward_at D.blocks l y k ≡ forward_at D.blocks m y k
      = earlier-there _ _ _ k (y k) (λ j o t. ap (λ (v : Float). v ⊗ y j) (same k j (omega arith) t)) in
      ap (λ (v : Float). forward_from D.blocks l c (k + 1) (put y k v)) here ∙ forward-there c (k + 1) _ (omega arith)

  back-there : (c : ℕ) (x : Row) → c ≤ n → back_from D.blocks l n c x ≡ back_from D.blocks m n c x
  unfolding back_from
  back-there zero x h = refl
  back-there (suc c) x h =
      let here : back_at D.blocks l n x c ≡ back_at D.blocks m n x c
      = later-there _ _ _ (n - (c + 1)) (c + 1) (x c) (λ i o p t. ap (λ (v : Float). v ⊗ x i) (same i c (omega arith) t)) in
      ap (λ (v : Float). back_from D.blocks l n c (put x c v)) here ∙ back-there c _ (omega arith)

  substituted-there : (y : Row) → substituted n D l y ≡ substituted n D m y
  unfolding substituted
  substituted-there y =
      ap (λ (z : Row). back_from D.blocks l n n (divided D z)) (forward-there n 0 y (omega arith)) ∙ back-there n _ (omega arith)

pub reads-entries-alone : ReadsEntriesAlone
unfolding solve_of solve_check solve_lengths solution_of
reads-entries-alone ncol nrow f g vector w =
    let y : Row = ordered (naturals g.order) (vec vector) in
    let D = diagonals_of g.d g.sub g.blocks in
    rw (w.d, w.sub, w.blocks, w.order, w.count) (ap (λ (x : Row). solved_after (solve_check ncol nrow g vector)
    (tabulate ncol (returned_from (naturals g.order) x ncol 0 (vec vector))) vector)
    (substituted-there ncol D (view nrow f.panel) (view nrow g.panel) w.entries y))

-- ---- renumbered

returned-renumbered : (order p : ℕ → ℕ) (x : Row) → ((i j : ℕ) → p i ≡ p j → i ≡ j) → (m k : ℕ) (b c : Row) → ((i : ℕ) → c (p i) ≡ b i)
    → (i : ℕ) → returned_from (λ j. p (order j)) x m k c (p i) ≡ returned_from order x m k b i
unfolding returned_from put
returned-renumbered order p x one zero k b c h i = h i
returned-renumbered order p x one (suc m) k b c h i =
    returned-renumbered order p x one m (k + 1) _ _ (λ r. test (eqb r (order k))
    (λ t. let e : r ≡ order k = eqb-true r (order k) t in rw (t, eq-eqb (p r) (p (order k)) (ap p e)))
    (λ t. rw (t, ne_eqb (p r) (p (order k)) (λ e. eqb-false r (order k) t (one r (order k) e)), h r))) i

pub comes-back-renumbered : ComesBackRenumbered
unfolding solution_of ordered
comes-back-renumbered n D l order p b c one h i =
    let same : ◌≡◌ {A = Row} (λ k. c (p (order k))) (λ k. b (order k)) = fun_ext λ k. h (order k) in
    ap (λ (y : Row). returned_from (λ k. p (order k)) (substituted n D l y) n 0 c (p i)) same
    ∙ returned-renumbered order p (substituted n D l (λ k. b (order k))) one n 0 b c h i
