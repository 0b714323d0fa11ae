-- Laws of a pivot's numbers: the ways through the tests of a 1x1 and of a block, a block's lift a round at a time. Assumes nothing.
use mathlib.Core.Path.{◌≡◌, sym, ap, ◌∙◌}
use mathlib.Core.Bool.{Bool, true, false}
use Rattle.std.specs.Prelude.{Option, Some, None, Result, Ok, Err}
use Prim.Native.Nat.{ℕ, zero, ◌+◌, ◌-◌, ◌≤◌, ◌<◌}
use native.Mathlib.Omega.{arith}
use lib.Ieee.{Float, lt, le, eq}
use Rattle.model.specs.Scalar.{◌⊕◌, ◌⊖◌, zero_f, magnitude_of, lift_of}
use Rattle.model.specs.Step.{block_of}
use Rattle.model.specs.Head.{settled_one, raised_from, growth_floor_of, bar_of, lift_step_of, unlifted, settled_two}
use Rattle.model.specs.declared.Mode.{Mode}
use Rattle.model.specs.declared.Mode.TheVariants.{Fail, Lift}
use Rattle.model.specs.declared.Block.{Block}
use Rattle.model.specs.declared.OneSettled.{OneSettled}
use Rattle.model.specs.declared.TwoSettled.{TwoSettled}
use Rattle.model.specs.declared.Unfit.{Unfit}
use Rattle.model.specs.declared.Unfit.TheVariants.{Low, OutOfRounds}
use Rattle.model.proofs.Cases.{one_left}

-- ---- the ways through a 1x1's tests

-- a number as it is
abbrev same : Float → Option OneSettled
same d = Some (record { d = d; lift = None })

pub one-zero : (mode : Mode) (d : Float) → mode ≡ Fail → eq d zero_f ≡ true → None ≡ settled_one mode d
unfolding settled_one
one-zero mode d e t = rw (e, t)

pub one-nonzero : (mode : Mode) (d : Float) → mode ≡ Fail → eq d zero_f ≡ false → same d ≡ settled_one mode d
unfolding settled_one
one-nonzero mode d e t = rw (e, t)

module _ (mode : Mode) (floor d m : Float) (e : mode ≡ Lift floor) (em : m ≡ magnitude_of d) where
  pub one-lifted : (new : Float) → new ≡ lift_of floor d → lt m floor ≡ true
      → Some (record { d = new; lift = Some (new ⊖ d) }) ≡ settled_one mode d
  unfolding settled_one
  one-lifted new en t = rw (e, ← em, ← en, t)

  pub one_kept : lt m floor ≡ false → same d ≡ settled_one mode d
  unfolding settled_one
  one_kept t = rw (e, ← em, t)

-- ---- a block's lift: `done` rounds of `limit` did not reach the bar, and `sum` is the next to try

module _ (b : Block) (bar step : Float) (limit : ℕ) where
  abbrev pub Left : ℕ → Float → Type 0
  Left done sum = raised_from b bar step (limit - done) (done + 1) sum ≡ raised_from b bar step limit 1 step

  abbrev tried : Float → Block
  tried sum = block_of (b.d11 ⊕ sum) b.d21 (b.d22 ⊕ sum)

  module _ (done : ℕ) (sum m : Float) (block : Block) (i : Left done sum) (h : done < limit) (eb : block ≡ tried sum) (em : m ≡ magnitude_of block.det) where
    seen : (t : Bool) → lt m bar ≡ t → lt (magnitude_of (tried sum).det) bar ≡ t
    seen t e = ap (λ (x : Block). lt (magnitude_of x.det) bar) (sym eb) ∙ ap (λ (x : Float). lt x bar) (sym em) ∙ e

    pub raised-step : lt m bar ≡ true → Left (done + 1) (sum ⊕ step)
    unfolding raised_from
    raised-step t = rw (one_left limit done h, seen true t) at i

    abbrev taken : Block → Result TwoSettled Unfit
    taken x = Ok (record { block = x; lift = Some sum; rounds = done + 1 })

    pub raised-enough : lt m bar ≡ false → taken block ≡ raised_from b bar step limit 1 step
    unfolding raised_from
    raised-enough t = ap taken eb ∙ (rw (one_left limit done h, seen false t) at i)

  pub raised-out : (done : ℕ) (sum : Float) → Left done sum → limit ≤ done → Err OutOfRounds ≡ raised_from b bar step limit 1 step
  unfolding raised_from
  raised-out done sum i h = let z : limit - done ≡ zero = omega arith in rw z at i

-- ---- the ways through a block's tests

module _ (mode : Mode) (limit : ℕ) (b : Block) (m : Float) (em : m ≡ magnitude_of b.det) where
  pub two-low : (g : Float) → mode ≡ Fail → g ≡ growth_floor_of b → le m g ≡ true → Err Low ≡ settled_two mode limit b
  unfolding settled_two
  two-low g e eg t = rw (e, ← em, ← eg, t)

  pub two-high : (g : Float) → mode ≡ Fail → g ≡ growth_floor_of b → le m g ≡ false → Ok (unlifted b) ≡ settled_two mode limit b
  unfolding settled_two
  two-high g e eg t = rw (e, ← em, ← eg, t)

  module _ (floor bar : Float) (e : mode ≡ Lift floor) (eb : bar ≡ bar_of floor b) where
    pub two-raised : (step : Float) (s : Result TwoSettled Unfit) → step ≡ lift_step_of floor b → s ≡ raised_from b bar step limit 1 step → lt m bar ≡ true
        → s ≡ settled_two mode limit b
    unfolding settled_two
    two-raised step s es er t = er ∙ rw (e, ← em, ← eb, ← es, t)

    pub two-kept : lt m bar ≡ false → Ok (unlifted b) ≡ settled_two mode limit b
    unfolding settled_two
    two-kept t = rw (e, ← em, ← eb, t)
