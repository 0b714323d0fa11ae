-- Laws of the two calls: their checks in turn, and what they leave. Assumes nothing.
use Rattle.std.specs.Prelude.{ℤ, pos, Ok, Err}
use mathlib.Core.Path.{◌≡◌, refl, sym, ◌∙◌, ap}
use mathlib.Core.List.{List}
use Prim.Native.Nat.{ℕ, ◌-◌, ◌≤◌}
use native.Mathlib.Omega.{arith}
use lib.ListN.{length, take, drop}
use Rattle.std.proofs.lemmas.List.{length-take}
use Rattle.model.specs.Sizes.{most_columns}
use Rattle.model.specs.Matrix.{naturals, places, tabulate}
use Rattle.model.specs.Answer.{Check, Applied}
use Rattle.model.specs.Inertia.{check_bytes}
use Rattle.model.specs.Solve.{check_order}
use Rattle.model.specs.Lapack.{integers, sizes_check, to_check, Listing, list_of, Listed, to_lapack_of, from_check, Arranged, arranged_of, Read, from_lapack_of}
use Rattle.model.specs.ForthAndBack.{GivesAgain, GivesListAgain}
use Rattle.model.specs.declared.Refusal.{Refusal}
use Rattle.model.proofs.Tabulated.{is-tabulate}
use Rattle.model.proofs.Stores.{place_at}
use Rattle.model.proofs.ForthAndBack.{Sizes, sizes, ToChecked, to-checked, to-leaves, from-leaves, forth-and-back, back-and-forth}
use Rattle.lapack.specs.Walks.{walked, SoundPre, listing, to_leaves, arranged, ListsPre, from_leaves}
use Rattle.checks.proofs.Answers.{first-refuses, second-decides}

-- ---- the checks to LAPACK in turn; k is what the sizes' check answers, j the order's, i the bytes'

module _ (ncol : ℕ) (order blocks : List ℕ) (list : List ℤ) (k : Check) (e : k ≡ sizes_check ncol (length order) (length blocks) (length list)) where
  pub to-sizes : (r : Refusal) → k ≡ Err r → k ≡ to_check ncol order blocks list
  unfolding to_check
  to-sizes r h = first-refuses k r _ _ h e

  module _ (h : k ≡ Ok tt) where
    all-sizes : Sizes ncol (length order) (length blocks) (length list)
    all-sizes = sizes ncol (length order) (length blocks) (length list) (sym e ∙ h)

    pub order-few : length order ≤ most_columns
    order-few = omega (arith, all-sizes.first, all-sizes.few)

    module _ (j : Check) (q : j ≡ check_order (length order) (naturals order)) where
      own-order : j ≡ check_order ncol (naturals order)
      own-order = rw all-sizes.first at q

      pub to-order : (r : Refusal) → j ≡ Err r → j ≡ to_check ncol order blocks list
      unfolding to_check
      to-order r x = second-decides k j _ _ h e (first-refuses j r _ _ x own-order)

      pub to-bytes : j ≡ Ok tt → (i : Check) → i ≡ check_bytes blocks → i ≡ to_check ncol order blocks list
      unfolding to_check
      to-bytes x i p = second-decides k i _ _ h e (second-decides j i _ _ x own-order p)

-- what is lent of a work of the most columns
pub part-count : {A : Type 0} (n : ℕ) (xs : List A) → n ≤ most_columns → length xs ≡ most_columns → length (take (n - 0) (drop 0 xs)) ≡ n
part-count n xs h l = length-take (n - 0) xs ∙ omega (arith, l)

-- ---- the call to LAPACK; k is what its check answers

module _ (ncol : ℕ) (order blocks : List ℕ) (list : List ℤ) (k : Check) (e : k ≡ to_check ncol order blocks list) where
  pub to-refuses : (r : Refusal) → k ≡ Err r → to_leaves (Err r) list ≡ to_lapack_of ncol order blocks list
  unfolding to_lapack_of
  to-refuses r h = rw (← e, h) refl

  module _ (h : k ≡ Ok tt) where
    checked : ToChecked ncol order blocks list
    checked = to-checked ncol order blocks list (sym e ∙ h)

    pub to-few : ncol ≤ most_columns
    to-few = checked.sizes.few

    pub sound-pre : SoundPre (length order) order blocks
    sound-pre = record {
      few = order-small;
      rows = refl;
      bytes = omega (arith, checked.sizes.first, checked.sizes.second);
      order_sound = rw checked.sizes.first checked.rows;
      bytes_sound = checked.bytes;
    }
      where
        order-small : length order ≤ most_columns
        order-small = omega (arith, checked.sizes.first, checked.sizes.few)

    -- room for the walk's lists
    pub to-room : (rows : List ℕ) (xs : List ℤ) → length rows ≡ ncol → length xs ≡ ncol → (length rows ≡ length order) × (length xs ≡ length order)
    to-room rows xs l m = (omega (arith, checked.sizes.first), omega (arith, checked.sizes.first))

    pub to-copied : (xs : List ℤ) → length xs ≡ ncol → length list ≡ length xs
    to-copied xs l = omega (arith, checked.sizes.third)

    pub to-late : (r : Refusal) (a : Applied) (f : Listing) → a ≡ Err r → walked a f ≡ list_of (length order) (naturals order) (naturals blocks)
        → to_leaves (Err r) list ≡ to_lapack_of ncol order blocks list
    unfolding to_lapack_of
    to-late r a f o x =
        let made : list_of ncol (naturals order) (naturals blocks) ≡ Err r = rw (← checked.sizes.first, ← x, o) refl in
        rw (← e, h, made) refl

    pub to-done : (a : Applied) (rows : List ℕ) (numbers new : List ℤ) → a ≡ Ok tt
        → walked a (listing rows numbers) ≡ list_of (length order) (naturals order) (naturals blocks) → new ≡ numbers → length numbers ≡ ncol
        → to_leaves (Ok tt) new ≡ to_lapack_of ncol order blocks list
    unfolding integers
    to-done a rows numbers new o x q l =
        let made : list_of ncol (naturals order) (naturals blocks) ≡ Ok (listing rows numbers) = rw (← checked.sizes.first, ← x, o) refl in
        let is : new ≡ tabulate ncol (integers numbers) = q ∙ is-tabulate ncol (integers numbers) (pos 0) numbers l (λ i m. refl) in
        sym (to-leaves ncol order blocks list (listing rows numbers) (sym e ∙ h) made ∙ rw (← is) refl)

-- what was accepted comes back
pub to-gives : (ncol : ℕ) (order blocks : List ℕ) (list new : List ℤ)
    → to_leaves (Ok tt) new ≡ to_lapack_of ncol order blocks list → GivesAgain ncol order blocks new
to-gives ncol order blocks list new e =
    rw (ap (λ (x : Listed). x.list) e) (forth-and-back ncol order blocks list (sym (ap (λ (x : Listed). x.answer) e)))

-- ---- the call from LAPACK; k is what its check answers

module _ (ncol : ℕ) (list : List ℤ) (order blocks : List ℕ) (k : Check) (e : k ≡ sizes_check ncol (length list) (length order) (length blocks)) where
  pub from-refuses : (r : Refusal) → k ≡ Err r → from_leaves (Err r) order blocks ≡ from_lapack_of ncol list order blocks
  unfolding from_lapack_of from_check
  from-refuses r h = rw (← e, h) refl

  module _ (h : k ≡ Ok tt) where
    from-sizes : Sizes ncol (length list) (length order) (length blocks)
    from-sizes = sizes ncol (length list) (length order) (length blocks) (sym e ∙ h)

    pub from-few : ncol ≤ most_columns
    from-few = from-sizes.few

    pub lists-pre : (n m : ℕ) → n ≡ ncol → m ≡ ncol → ListsPre (length list) n m
    lists-pre n m q l = record {
      few = omega (arith, from-sizes.first, from-sizes.few);
      rows = omega (arith, from-sizes.first);
      bytes = omega (arith, from-sizes.first);
    }

    pub from-room : (xs ys : List ℕ) → length xs ≡ ncol → length ys ≡ ncol → (length order ≡ length xs) × (length blocks ≡ length ys)
    from-room xs ys l m = (omega (arith, from-sizes.second), omega (arith, from-sizes.third))

    pub from-late : (r : Refusal) (a : Applied) (s : Arranged) → a ≡ Err r → walked a s ≡ arranged_of (length list) (integers list)
        → from_leaves (Err r) order blocks ≡ from_lapack_of ncol list order blocks
    unfolding from_lapack_of from_check
    from-late r a s o x =
        let made : arranged_of ncol (integers list) ≡ Err r = rw (← from-sizes.first, ← x, o) refl in
        rw (← e, h, made) refl

    pub from-done : (a : Applied) (rows bytes new new_bytes : List ℕ) → a ≡ Ok tt → walked a (arranged rows bytes) ≡ arranged_of (length list) (integers list)
        → new ≡ rows → new_bytes ≡ bytes → length rows ≡ ncol → length bytes ≡ ncol
        → from_leaves (Ok tt) new new_bytes ≡ from_lapack_of ncol list order blocks
    unfolding from_check naturals
    from-done a rows bytes new new_bytes o x q p l m =
        let made : arranged_of ncol (integers list) ≡ Ok (arranged rows bytes) = rw (← from-sizes.first, ← x, o) refl in
        let is : new ≡ tabulate ncol (places rows) = q ∙ is-tabulate ncol (places rows) 0 rows l (λ i h. place_at rows i (omega arith)) in
        let are : new_bytes ≡ tabulate ncol (naturals bytes) = p ∙ is-tabulate ncol (naturals bytes) 0 bytes m (λ i h. refl) in
        sym (from-leaves ncol list order blocks (arranged rows bytes) (sym e ∙ h) made ∙ rw (← is, ← are) refl)

pub from-gives : (ncol : ℕ) (list : List ℤ) (order blocks new new_bytes : List ℕ) → from_leaves (Ok tt) new new_bytes ≡ from_lapack_of ncol list order blocks
    → GivesListAgain ncol list new new_bytes
from-gives ncol list order blocks new new_bytes e =
    rw (ap (λ (x : Read). x.order) e, ap (λ (x : Read). x.blocks) e) (back-and-forth ncol list order blocks (sym (ap (λ (x : Read). x.answer) e)))
