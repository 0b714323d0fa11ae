-- The cut to the head goes through a step: through the choice, and with the parts of Masked through `try_of`. Assumes nothing.
use Prim.Native.Nat.{ℕ, zero, suc, ◌+◌, ◌-◌, ◌<◌, ◌≤◌}
use mathlib.Core.Path.{◌≡◌, refl, ◌∙◌, ap}
use mathlib.Core.Bool.{true}
use native.Mathlib.Omega.{arith}
use Rattle.model.specs.Matrix.{Row, Mat, head_of, exchanged}
use Rattle.model.specs.Choice.{greatest, column_greatest, row_greatest, none_yet, with_row, choose_of}
use Rattle.model.specs.Step.{block_in}
use Rattle.model.specs.Head.{settled_one, settled_two, after_one, after_two, try_block, try_by, try_of, last_of}
use Rattle.model.specs.declared.Mode.{Mode}
use Rattle.model.specs.declared.Pivoting.{Pivoting}
use Rattle.model.specs.declared.Mode.TheVariants.{Fail, Lift}
use Rattle.model.specs.declared.Greatest.{Greatest}
use Rattle.model.specs.declared.Choice.{Choice}
use Rattle.model.specs.declared.Choice.TheVariants as choice
use Rattle.model.specs.declared.Chosen.{Chosen}
use Rattle.model.specs.declared.PivotTest.TheVariants as by
use Rattle.model.specs.declared.OneSettled.{OneSettled}
use Rattle.model.specs.declared.TwoSettled.{TwoSettled}
use Rattle.model.specs.declared.Unfit.{Unfit}
use Rattle.model.specs.declared.Unfit.TheVariants.{Low, OutOfRounds}
use Rattle.std.specs.Prelude.{Option, Some, None, Result, Ok, Err}
use Rattle.model.proofs.Bounds.{column-in, ChosenIn, ChoiceIn, choose-in}
use Rattle.whole.specs.Whole.{cut_tried}
use Rattle.whole.proofs.Masked.{head_at, exchanged-masked, head_one-masked, head_two-masked, kept_one-masked, kept_two-masked}

-- ---- the choice

-- the search sees nothing but its places
pub greatest-alike : (f g : Row) (lo n : ℕ) (best : Greatest) → ((i : ℕ) → lo ≤ i → i < lo + n → f i ≡ g i) → greatest f lo n best ≡ greatest g lo n best
unfolding greatest
greatest-alike f g lo zero best h = refl
greatest-alike f g lo (suc n) best h = rw (h lo (omega arith) (omega arith)) (greatest-alike f g (lo + 1) n _ (λ i x y. h i (omega arith) (omega arith)))

module _ (c : ℕ) (a : Mat) (k ke : ℕ) (hk : k < ke) (hc : ke ≤ c) where
  column-masked : column_greatest (head_of c a) k ke ≡ column_greatest a k ke
  unfolding column_greatest
  column-masked = greatest-alike (λ i. head_of c a i k) (λ i. a i k) (k + 1) (ke - (k + 1)) (none_yet k) (λ i x y. head_at c a i k (omega arith) (omega arith))

  row-masked : (r : ℕ) → k ≤ r → r < ke → row_greatest (head_of c a) k ke r ≡ row_greatest a k ke r
  unfolding row_greatest
  row-masked r h l =
      greatest-alike (λ i. head_of c a i r) (λ i. a i r) (r + 1) (ke - (r + 1)) _ (λ i x y. head_at c a i r (omega arith) (omega arith))
      ∙ ap (λ (b : Greatest). greatest (λ i. a i r) (r + 1) (ke - (r + 1)) b)
      (greatest-alike (head_of c a r) (a r) k (r - k) (none_yet k) (λ j x y. head_at c a r j (omega arith) (omega arith)))

  pub choose-masked : choose_of (head_of c a) k ke ≡ choose_of a k ke
  unfolding choose_of
  choose-masked =
      let b = column-in a k ke hk in
      let r = (column_greatest a k ke).at.0 in
      rw (column-masked, row-masked r b.0 b.1, head_at c a k k (omega arith) (omega arith), head_at c a r r (omega arith) (omega (arith, b.1)))

-- ---- the step

module _ (c ke : ℕ) (a m : Mat) (hc : ke ≤ c) (k : ℕ) (o : Chosen) (hp : o.kp.0 < ke) where
  one-tried : (s : Option OneSettled) → k < ke → after_one ke (head_of c a) m k o s ≡ cut_tried c (after_one ke a m k o s)
  one-tried None hk = refl
  one-tried (Some s) hk =
      let x = exchanged k o.kp.0 ke a in
      rw (exchanged-masked c k o.kp.0 ke a hk hp hc, head_one-masked c ke k s.d x hk hc, kept_one-masked c ke k x m hc s.d)

  two-tried : (s : Result TwoSettled Unfit) → k + 1 < ke → after_two ke (head_of c a) m k o s ≡ cut_tried c (after_two ke a m k o s)
  two-tried (Err Low) hk = refl
  two-tried (Err OutOfRounds) hk = refl
  two-tried (Ok s) hk =
      let x = exchanged (k + 1) o.kp.0 ke a in
      rw (exchanged-masked c (k + 1) o.kp.0 ke a hk hp hc, head_two-masked c ke k s.block x hc, kept_two-masked c ke k x m hc s.block)

  single-tried : (mode : Mode) → k < ke
      → after_one ke (head_of c a) m k o (settled_one mode (head_of c a o.kp.0 o.kp.0))
      ≡ cut_tried c (after_one ke a m k o (settled_one mode (a o.kp.0 o.kp.0)))
  single-tried mode hk = rw (head_at c a o.kp.0 o.kp.0 (omega arith) (omega arith)) (one-tried (settled_one mode (a o.kp.0 o.kp.0)) hk)

  block-tried : (mode : Mode) (limit : ℕ) → k + 1 < ke → try_block ke (head_of c a) m mode limit k o ≡ cut_tried c (try_block ke a m mode limit k o)
  block-tried mode limit hk =
      let x = exchanged (k + 1) o.kp.0 ke a in
      rw (exchanged-masked c (k + 1) o.kp.0 ke a hk hp hc) (
      let at : (i j : ℕ) → j ≤ i → i < ke → head_of c x i j ≡ x i j = λ i j h l. head_at c x i j h (omega arith) in
      rw (at k k (omega arith) (omega arith), at (k + 1) k (omega arith) hk, at (k + 1) (k + 1) (omega arith) hk)
      (two-tried (settled_two mode limit (block_in x k)) hk))

module _ (c ke : ℕ) (a m : Mat) (hc : ke ≤ c) where
  -- a block's first exchange, then the block
  pair-tried : (mode : Mode) (limit k : ℕ) (o : Chosen) → k < ke → ChosenIn k ke true o
      → try_block ke (exchanged k o.p.0 ke (head_of c a)) m mode limit k o ≡ cut_tried c (try_block ke (exchanged k o.p.0 ke a) m mode limit k o)
  unfolding last_of
  pair-tried mode limit k o hk w =
      rw (exchanged-masked c k o.p.0 ke a hk (omega (arith, w.own)) hc)
      (block-tried c ke (exchanged k o.p.0 ke a) m hc k o w.row mode limit (omega (arith, w.from, w.row)))

  tried-by : (mode : Mode) (limit k : ℕ) (o : Choice) → k < ke → ChoiceIn k ke o
      → try_by ke (head_of c a) m mode limit k o ≡ cut_tried c (try_by ke a m mode limit k o)
  tried-by Fail limit k choice.ZeroColumn hk w = refl
  tried-by (Lift floor) limit k choice.ZeroColumn hk w = single-tried c ke a m hc k (with_row by.ZeroColumn k (record { 0 = k })) hk (Lift floor) hk
  tried-by Fail limit k (choice.Single o) hk w = single-tried c ke a m hc k o w.row Fail hk
  tried-by (Lift floor) limit k (choice.Single o) hk w = single-tried c ke a m hc k o w.row (Lift floor) hk
  tried-by Fail limit k (choice.Block o) hk w = pair-tried Fail limit k o hk w
  tried-by (Lift floor) limit k (choice.Block o) hk w = pair-tried (Lift floor) limit k o hk w

  -- the cut goes through a step
  pub try-masked : (how : Pivoting) (k : ℕ) → k < ke → try_of ke (head_of c a) m how k ≡ cut_tried c (try_of ke a m how k)
  unfolding try_of
  try-masked how k hk = rw (choose-masked c a k ke hk hc) (tried-by how.mode how.limit k (choose_of a k ke) hk (choose-in a k ke hk))
