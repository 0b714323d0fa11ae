-- Laws of the inertia call: what it answers once its arguments are checked. Assumes nothing.
use mathlib.Core.Path.{◌≡◌, sym, ◌∙◌}
use mathlib.Core.Bool.{true, ◌&&◌, not}
use mathlib.Core.List.{List}
use Prim.Native.Nat.{ℕ}
use borrow.Author.Tests.{eqb-true}
use lib.Dec.{eqb, leb}
use lib.ListN.{length}
use lib.Ieee.{Float}
use Rattle.model.specs.Sizes.{most_columns}
use Rattle.model.specs.Matrix.{vec, naturals}
use Rattle.model.specs.Inertia.{check_bytes, inertia_check, tallied_of, inertia_of}
use Rattle.std.specs.Prelude.{Ok, Err}
use Rattle.model.specs.Answer.{Check, refuse_if, accepted, turned_away}
use Rattle.model.specs.declared.Refusal.{Refusal}
use Rattle.model.specs.declared.Refusal.TheVariants.{InertiaLength}
use Rattle.model.specs.declared.Tally.{Tally}
use Rattle.model.proofs.Cases.{and_left, and_right}
use Rattle.model.proofs.Entry.{first-sound, second-sound, not-refused}
use Rattle.inertia.specs.Count.{TallyPre}

module _ (d sub : List Float) (blocks : List ℕ) (k : Check) (e : k ≡ inertia_check d sub blocks) where
  pub checked-lists : k ≡ Ok tt → TallyPre d sub blocks
  unfolding inertia_check
  checked-lists h =
      let lists = eqb (length sub) (length d) && (eqb (length blocks) (length d) && leb (length d) most_columns) in
      let pass : inertia_check d sub blocks ≡ Ok tt = sym e ∙ h in
      let ok : lists ≡ true = not-refused lists InertiaLength (first-sound (refuse_if (not lists) InertiaLength) (check_bytes blocks) pass) in
      record {
        sub = eqb-true (length sub) (length d) (search and_left);
        blocks = eqb-true (length blocks) (length d) (search (and_left, and_right));
        check = second-sound (refuse_if (not lists) InertiaLength) (check_bytes blocks) pass;
      }

  pub inertia-counts : (t : Tally) → k ≡ Ok tt → t ≡ tallied_of (length d) (vec d) (vec sub) (naturals blocks) → accepted t ≡ inertia_of d sub blocks
  unfolding inertia_of
  inertia-counts t h c = rw (← e, h, c)

  pub inertia-refuses : (r : Refusal) → k ≡ Err r → turned_away r ≡ inertia_of d sub blocks
  unfolding inertia_of
  inertia-refuses r h = rw (← e, h)
