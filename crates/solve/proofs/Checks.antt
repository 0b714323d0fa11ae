-- Laws of the solve call: its checks in turn, what a call past them may rely on, and what it leaves. Assumes nothing.
use mathlib.Core.Path.{◌≡◌, sym, ◌∙◌, ap}
use mathlib.Core.Bool.{Bool, true, false, not}
use mathlib.Core.List.{List}
use Prim.Native.Nat.{ℕ, ◌-◌, ◌*◌, ◌≤◌}
use native.Mathlib.Omega.{arith}
use borrow.Author.Tests.{eqb-true, leb-true, not-false}
use lib.ListN.{length}
use lib.Ieee.{Float, nan}
use borrow.Rule.Slice.PartMut.{mid_of}
use Rattle.model.specs.Sizes.{most_columns}
use Rattle.model.specs.Matrix.{Row, view, vec, naturals, tabulate}
use Rattle.model.specs.Step.{diagonals_of}
use Rattle.model.specs.Assembly.{first_not}
use Rattle.model.specs.Inertia.{check_bytes}
use Rattle.model.specs.Solve.{Factor, square_sound, solve_lengths, order_sound, order_at, check_order, right_side_at, solve_check, solution_of, solve_of}
use Rattle.model.specs.declared.Refusal.{Refusal}
use Rattle.model.specs.declared.Refusal.TheVariants.{Shape, BufferLength}
use Rattle.model.specs.Answer.{Check}
use Rattle.std.specs.Prelude.{Ok, Err}
use Rattle.model.proofs.Cases.{and_left, and_right}
use Rattle.model.proofs.Entry.{first-sound, second-sound, not-refused}
use Rattle.model.proofs.Tabulated.{is-tabulate}
use Rattle.kernels.proofs.Parts.{mid-count}
use Rattle.checks.specs.Finite.{finite_at}
use Rattle.checks.proofs.Answers.{first-refuses, second-decides}
use Rattle.model.proofs.Bytes.{bytes-paired}
use Rattle.model.proofs.Every.{first-all}
use Rattle.model.proofs.Order.{sound-inside}
use Rattle.solve.specs.Call.{solve_leaves, SubstitutePre}

-- ---- refusals 1 and 25

-- a sound root node: its columns are few enough, and its panel's length fits
pub square-few : (ncol nrow : ℕ) → square_sound ncol nrow ≡ true → ncol ≤ most_columns
square-few ncol nrow h = leb-true ncol most_columns (search (and_left, and_right))

pub square-is : (ncol nrow : ℕ) → square_sound ncol nrow ≡ true → nrow ≡ ncol
square-is ncol nrow h = eqb-true nrow ncol (search (and_left, and_right))

-- what the lengths are past refusal 25
pub record Lengths (ncol nrow : ℕ) (f : Factor) (vector : List Float) : Type 0 where
  pub panel : length f.panel ≡ nrow * ncol
  pub d : length f.d ≡ ncol
  pub sub : length f.sub ≡ ncol
  pub blocks : length f.blocks ≡ ncol
  pub order : length f.order ≡ ncol
  pub right : length vector ≡ ncol

pub lengths : (ncol nrow : ℕ) (f : Factor) (vector : List Float) → solve_lengths ncol nrow f vector ≡ true → Lengths ncol nrow f vector
unfolding solve_lengths
lengths ncol nrow f vector h = record {
  panel = eqb-true (length f.panel) (nrow * ncol) (search (and_left, and_right) depth 12);
  d = eqb-true (length f.d) ncol (search (and_left, and_right) depth 12);
  sub = eqb-true (length f.sub) ncol (search (and_left, and_right) depth 12);
  blocks = eqb-true (length f.blocks) ncol (search (and_left, and_right) depth 12);
  order = eqb-true (length f.order) ncol (search (and_left, and_right) depth 12);
  right = eqb-true (length vector) ncol (search (and_left, and_right) depth 12);
}

-- ---- the checks in turn: b and t are the answers of the tests of refusals 1 and 25, k of refusal 26's scan, j of refusal 16's, i of refusal 27's

module _ (ncol nrow : ℕ) (f : Factor) (vector : List Float) (b : Bool) (h : b ≡ square_sound ncol nrow) where
  pub check-shape : not b ≡ true → Err Shape ≡ solve_check ncol nrow f vector
  unfolding solve_check
  check-shape x = rw (← h, x)

  pub shape-passed : not b ≡ false → square_sound ncol nrow ≡ true
  shape-passed x = sym h ∙ not-false b x

  module _ (x : not b ≡ false) (t : Bool) (g : t ≡ solve_lengths ncol nrow f vector) where
    pub check-lengths : not t ≡ true → Err BufferLength ≡ solve_check ncol nrow f vector
    unfolding solve_check
    check-lengths y = rw (← h, x, ← g, y)

    pub lengths-passed : not t ≡ false → Lengths ncol nrow f vector
    lengths-passed y = lengths ncol nrow f vector (sym g ∙ not-false t y)

    pub order-few : not t ≡ false → length f.order ≤ most_columns
    order-few y = omega (arith, (lengths-passed y).order, square-few ncol nrow (shape-passed x))

    module _ (y : not t ≡ false) (k : Check) (e : k ≡ check_order (length f.order) (naturals f.order)) where
      own-order : k ≡ check_order ncol (naturals f.order)
      own-order = e ∙ ap (λ (n : ℕ). check_order n (naturals f.order)) (lengths-passed y).order

      pub check-order : (r : Refusal) → k ≡ Err r → k ≡ solve_check ncol nrow f vector
      unfolding solve_check
      check-order r z = rw (← h, x, ← g, y) (first-refuses k r _ _ z own-order)

      module _ (z : k ≡ Ok tt) (j : Check) (c : j ≡ check_bytes f.blocks) where
        pub check-bytes : (r : Refusal) → j ≡ Err r → j ≡ solve_check ncol nrow f vector
        unfolding solve_check
        check-bytes r q = rw (← h, x, ← g, y) (second-decides k j _ _ z own-order (first-refuses j r _ _ q c))

        pub check-numbers : (i : Check) → j ≡ Ok tt → i ≡ first_not (finite_at vector) right_side_at (length vector) 0 → i ≡ solve_check ncol nrow f vector
        unfolding solve_check finite_at
        check-numbers i q p =
            rw (← h, x, ← g, y) (second-decides k i _ _ z own-order (second-decides j i _ _ q c (rw (lengths-passed y).right at p)))

-- ---- the call: k is what its checks answer

module _ (ncol nrow : ℕ) (f : Factor) (vector : List Float) (k : Check) (e : k ≡ solve_check ncol nrow f vector) where
  module _ (h : k ≡ Ok tt) where
    square : square_sound ncol nrow ≡ true
    unfolding solve_check
    square = let pass : solve_check ncol nrow f vector ≡ Ok tt = sym e ∙ h in not-refused (square_sound ncol nrow) Shape (search (first-sound, second-sound))

    all-lengths : Lengths ncol nrow f vector
    unfolding solve_check
    all-lengths =
        let pass : solve_check ncol nrow f vector ≡ Ok tt = sym e ∙ h in
        lengths ncol nrow f vector (not-refused (solve_lengths ncol nrow f vector) BufferLength (search (first-sound, second-sound)))

    rows-sound : check_order ncol (naturals f.order) ≡ Ok tt
    unfolding solve_check
    rows-sound = let pass : solve_check ncol nrow f vector ≡ Ok tt = sym e ∙ h in search (first-sound, second-sound)

    bytes-sound : check_bytes f.blocks ≡ Ok tt
    unfolding solve_check
    bytes-sound = let pass : solve_check ncol nrow f vector ≡ Ok tt = sym e ∙ h in search (first-sound, second-sound)

    pub few-columns : ncol ≤ most_columns
    few-columns = square-few ncol nrow square

    -- what is lent of the work, which has room for the most columns
    pub work-lent : (work : List Float) → length work ≡ most_columns → length (mid_of 0 (ncol - 0) work) ≡ ncol
    work-lent work q = mid-count 0 ncol work (omega arith) (omega (arith, few-columns)) ∙ omega arith

    -- n is the length of what is lent
    pub substitute-pre : (n : ℕ) → n ≡ ncol → SubstitutePre f (length vector) n
    unfolding order_sound
    substitute-pre n q =
        rw q (record {
          panel = all-lengths.panel ∙ ap (λ (m : ℕ). m * ncol) (square-is ncol nrow square);
          d = all-lengths.d;
          sub = all-lengths.sub;
          blocks = all-lengths.blocks;
          order = all-lengths.order;
          paired = rw all-lengths.blocks at (bytes-paired f.blocks bytes-sound);
          rows = λ i o.
              let order = naturals f.order in
              omega (arith, all-lengths.right, sound-inside order ncol i (first-all (order_sound order ncol) order_at ncol i rows-sound o));
        })

    pub solve-done : (n : ℕ) (new : List Float) → n ≡ ncol → length new ≡ length vector
        → vec new ≡ solution_of n (diagonals_of f.d f.sub f.blocks) (view n f.panel) (naturals f.order) (vec vector)
        → solve_leaves (Ok tt) new ≡ solve_of ncol nrow f vector
    unfolding solve_of vec
    solve-done n new q l v =
        let s : Row = solution_of ncol (diagonals_of f.d f.sub f.blocks) (view nrow f.panel) (naturals f.order) (vec vector) in
        let is : new ≡ tabulate ncol s
        = is-tabulate ncol s nan new (l ∙ all-lengths.right)
        (λ i o. ap (λ (g : Row). g i) v ∙ rw (q, ← square-is ncol nrow square)) in
        ap (solve_leaves (Ok tt)) is ∙ rw (← e, h)

  pub solve-refuses : (r : Refusal) → k ≡ Err r → solve_leaves (Err r) vector ≡ solve_of ncol nrow f vector
  unfolding solve_of
  solve-refuses r h = rw (← e, h)
