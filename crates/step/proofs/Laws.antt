-- Laws of one step: a 1x1 and a block in the model's words, the choice's cases, what the mode makes of them, and what the answer keeps to. Assumes nothing.
use Prim.Native.Nat.{ℕ, ◌+◌, ◌<◌, ◌≤◌}
use mathlib.Core.Path.{◌≡◌, refl, sym, ◌∙◌, ap, subst}
use native.Mathlib.Omega.{arith}
use lib.Ieee.{Float}
use Rattle.std.specs.Prelude.{Option, Some, None, Result, Ok, Err}
use Rattle.model.specs.Sizes.{most_rounds}
use Rattle.model.specs.Matrix.{Mat, exchanged}
use Rattle.model.specs.Choice.{choose_of}
use Rattle.model.specs.Step.{block_in}
use Rattle.model.specs.Head.{settled_one, settled_two, head_one, head_two, kept_one, kept_two, Tried, after_one, after_two, try_by, try_of}
use Rattle.model.specs.declared.Mode.{Mode}
use Rattle.model.specs.declared.Pivoting.{Pivoting}
use Rattle.model.specs.declared.Mode.TheVariants.{Fail, Lift}
use Rattle.model.specs.declared.Block.{Block as Numbers}
use Rattle.model.specs.declared.Diagonal.TheVariants.{One, Two}
use Rattle.model.specs.declared.Elim.{Elim}
use Rattle.model.specs.declared.Frame.{Frame}
use Rattle.model.specs.declared.Refusal.TheVariants as refusal
use Rattle.model.specs.declared.Choice.{Choice}
use Rattle.model.specs.declared.Choice.TheVariants.{ZeroColumn, Single, Block}
use Rattle.model.specs.declared.Chosen.{Chosen}
use Rattle.model.specs.declared.OneSettled.{OneSettled}
use Rattle.model.specs.declared.TwoSettled.{TwoSettled}
use Rattle.model.specs.declared.Unfit.{Unfit}
use Rattle.model.specs.declared.Unfit.TheVariants.{Low, OutOfRounds}
use Rattle.model.proofs.Bounds.{Good, try-good}
use Rattle.grid.specs.Grid.{In}
use Rattle.grid.proofs.Laws.{in-panel}
use Rattle.greatest.specs.Greatest.{Within}
use Rattle.eliminate.specs.Eliminate.{TwoPre}
use Rattle.rule.specs.Chosen.{ChoiceWithin}
use Rattle.step.specs.Answers.{Taken, tried, by_mode, single_of, two_of}
use Rattle.step.specs.Terms.{TakenIn, LimitPre, PanelPre, StepPre, PivotPre, BlockPre}

-- ---- places

pub row_in : (at : Frame) (i len len_m : ℕ) → PanelPre at len len_m → i < at.ke → In at.nrow i i len
row_in at i len len_m h l = in-panel at.nrow at.ncol i i len h.panel (omega (arith, h.rows, h.cols)) (omega (arith, h.cols))

-- of a block
pub two-pre : (at : Frame) (k kp len len' len_m : ℕ) → PivotPre at k (k + 1) kp len len_m → len' ≡ len
    → TwoPre at.nrow at.ncol at.nb at.kb at.ke k len' len_m
two-pre at k kp len len' len_m h e =
    let s = h.step.sizes in
    record { size = e ∙ s.panel; square = s.mult; head = s.rows; cols = s.cols; width = s.width; from = h.step.from; here = h.step.last }

pub corner-in : (nrow ncol k i j len : ℕ) → BlockPre nrow ncol k len → i ≤ k + 1 → j ≤ k + 1 → In nrow i j len
corner-in nrow ncol k i j len h a b = in-panel nrow ncol i j len h.panel (omega arith) (omega arith)

-- ---- a 1x1, c as chosen: x is the number at its row kp, S its settlement, B the matrix exchanged, B' and M' what is left

single-by : (ke k : ℕ) (c : Chosen) (A M : Mat) (mode : Mode) (x : Float) (S o : Option OneSettled) → x ≡ A c.kp.0 c.kp.0 → S ≡ settled_one mode x → S ≡ o
    → after_one ke A M k c o ≡ single_of ke A M mode k c
unfolding single_of
single-by ke k c A M mode x S o e s z = ap (after_one ke A M k c) (sym z ∙ s ∙ ap (settled_one mode) e)

pub single-stop : (ke : ℕ) (k : Elim) (c : Chosen) (A M B N : Mat) (mode : Mode) (x : Float) (S : Option OneSettled)
    → x ≡ A c.kp.0 c.kp.0 → S ≡ settled_one mode x → S ≡ None → tried (Err (refusal.ZeroPivot k)) B N ≡ single_of ke A M mode k.0 c
unfolding tried
single-stop ke k c A M B N mode x S e s z = single-by ke k.0 c A M mode x S None e s z

pub single-took : (ke k : ℕ) (c : Chosen) (A M B B' M' : Mat) (mode : Mode) (x : Float) (o : OneSettled) (S : Option OneSettled)
    → x ≡ A c.kp.0 c.kp.0 → S ≡ settled_one mode x → S ≡ Some o → B ≡ exchanged k c.kp.0 ke A
    → B' ≡ head_one ke k o.d B → M' ≡ kept_one ke k o.d B M
    → tried (Ok (record { chosen = c; diagonal = One o.d; lift = o.lift; rounds = 0 })) B' M' ≡ single_of ke A M mode k c
unfolding tried
single-took ke k c A M B B' M' mode x o S e s z b b' m' =
    rw (m', b', b) (single-by ke k c A M mode x S (Some o) e s z)

-- ---- a block, c as chosen: B is the matrix exchanged, b its block, S the settlement, B' and M' what is left

block-by : (ke k limit : ℕ) (c : Chosen) (A M B : Mat) (mode : Mode) (b : Numbers) (S o : Result TwoSettled Unfit) → B ≡ exchanged (k + 1) c.kp.0 ke A
    → b ≡ block_in B k → S ≡ settled_two mode limit b → S ≡ o → after_two ke A M k c o ≡ two_of ke A M mode limit k c
unfolding two_of
block-by ke k limit c A M B mode b S o x e s z =
    ap (after_two ke A M k c) (sym z ∙ s ∙ ap (settled_two mode limit) (e ∙ ap (λ (P : Mat). block_in P k) x))

pub block-stop : (ke : ℕ) (k : Elim) (limit : ℕ) (c : Chosen) (A M B N : Mat) (mode : Mode) (b : Numbers) (S : Result TwoSettled Unfit)
    → B ≡ exchanged (k.0 + 1) c.kp.0 ke A → b ≡ block_in B k.0 → S ≡ settled_two mode limit b → S ≡ Err Low
    → tried (Err (refusal.LowBlock k)) B N ≡ two_of ke A M mode limit k.0 c
unfolding tried
block-stop ke k limit c A M B N mode b S x e s z = block-by ke k.0 limit c A M B mode b S (Err Low) x e s z

pub block-rounds : (ke : ℕ) (k : Elim) (limit : ℕ) (c : Chosen) (A M B N : Mat) (mode : Mode) (b : Numbers) (S : Result TwoSettled Unfit)
    → B ≡ exchanged (k.0 + 1) c.kp.0 ke A → b ≡ block_in B k.0 → S ≡ settled_two mode limit b → S ≡ Err OutOfRounds
    → tried (Err (refusal.Rounds k)) B N ≡ two_of ke A M mode limit k.0 c
unfolding tried
block-rounds ke k limit c A M B N mode b S x e s z = block-by ke k.0 limit c A M B mode b S (Err OutOfRounds) x e s z

pub block-took : (ke k limit : ℕ) (c : Chosen) (A M B B' M' : Mat) (mode : Mode) (b : Numbers) (o : TwoSettled) (S : Result TwoSettled Unfit)
    → B ≡ exchanged (k + 1) c.kp.0 ke A → b ≡ block_in B k → S ≡ settled_two mode limit b → S ≡ Ok o
    → B' ≡ head_two ke k o.block B → M' ≡ kept_two ke k o.block B M
    → tried (Ok (record { chosen = c; diagonal = Two o.block; lift = o.lift; rounds = o.rounds })) B' M' ≡ two_of ke A M mode limit k c
unfolding tried
block-took ke k limit c A M B B' M' mode b o S x e s z b' m' =
    rw (m', b', x) (block-by ke k limit c A M B mode b S (Ok o) x e s z)

-- ---- the choice C, and D, what the mode makes of it

-- the step is the same
by_mode_lem : (ke : ℕ) (A M : Mat) (mode : Mode) (limit : ℕ) (k : Elim) (C : Choice)
    → try_by ke A M mode limit k.0 (by_mode mode k C) ≡ try_by ke A M mode limit k.0 C
by_mode_lem ke A M Fail limit k C = refl
by_mode_lem ke A M (Lift floor) limit k ZeroColumn = refl
by_mode_lem ke A M (Lift floor) limit k (Single c) = refl
by_mode_lem ke A M (Lift floor) limit k (Block c) = refl

-- and so is where it can stand
pub within-mode : (ke : ℕ) (mode : Mode) (k : Elim) (C D : Choice) → k.0 < ke → ChoiceWithin k.0 ke C → D ≡ by_mode mode k C → ChoiceWithin k.0 ke D
within-mode ke mode k C D h w e = subst (ChoiceWithin k.0 ke) (sym e) (go mode C w)
  where
    go : (mode : Mode) (C : Choice) → ChoiceWithin k.0 ke C → ChoiceWithin k.0 ke (by_mode mode k C)
    go Fail C w = w
    go (Lift floor) ZeroColumn w = record { low = omega arith; high = h }
    go (Lift floor) (Single c) w = w
    go (Lift floor) (Block c) w = w

by-choice : (ke : ℕ) (A M : Mat) (how : Pivoting) (k : Elim) (C D o : Choice) → C ≡ choose_of A k.0 ke → D ≡ by_mode how.mode k C
    → D ≡ o → try_by ke A M how.mode how.limit k.0 o ≡ try_of ke A M how k.0
unfolding try_of
by-choice ke A M how k C D o c m z =
    ap (try_by ke A M how.mode how.limit k.0) (sym z ∙ m)
    ∙ by_mode_lem ke A M how.mode how.limit k C
    ∙ ap (try_by ke A M how.mode how.limit k.0) c

-- a zero column is left in Fail alone
zero-by : (ke : ℕ) (A M B N : Mat) (mode : Mode) (limit : ℕ) (k : Elim) (C : Choice) → by_mode mode k C ≡ ZeroColumn
    → tried (Err (refusal.ZeroColumn k)) B N ≡ try_by ke A M mode limit k.0 ZeroColumn
unfolding tried
zero-by ke A M B N Fail limit k C e = refl
zero-by ke A M B N (Lift floor) limit k ZeroColumn e = cc
zero-by ke A M B N (Lift floor) limit k (Single c) e = cc
zero-by ke A M B N (Lift floor) limit k (Block c) e = cc

one-by : (ke : ℕ) (A M : Mat) (mode : Mode) (limit k : ℕ) (c : Chosen) → single_of ke A M mode k c ≡ try_by ke A M mode limit k (Single c)
unfolding single_of
one-by ke A M Fail limit k c = refl
one-by ke A M (Lift floor) limit k c = refl

two-by : (ke : ℕ) (A M : Mat) (mode : Mode) (limit k : ℕ) (c : Chosen)
    → two_of ke (exchanged k c.p.0 ke A) M mode limit k c ≡ try_by ke A M mode limit k (Block c)
unfolding two_of
two-by ke A M Fail limit k c = refl
two-by ke A M (Lift floor) limit k c = refl

-- ---- what the answer keeps to

-- Fail lifts nothing
fail-limit : (ke : ℕ) (A M : Mat) (limit k : ℕ)
    → try_of ke A M (record { mode = Fail; limit = limit }) k ≡ try_of ke A M (record { mode = Fail; limit = 0 }) k
unfolding try_of settled_two
fail-limit ke A M limit k = by (choose_of A k ke)
  where
    by : (o : Choice) → try_by ke A M Fail limit k o ≡ try_by ke A M Fail 0 k o
    by ZeroColumn = refl
    by (Single c) = refl
    by (Block c) = refl

tried-in : (how : Pivoting) (ke k : ℕ) (T : Taken) (A' M' : Mat) (R : Tried) → k < ke → how.limit ≤ most_rounds → Good how ke k R → tried T A' M' ≡ R
    → TakenIn ke k T
unfolding tried
tried-in how ke k (Err r) A' M' R h l g e = tt
tried-in how ke k (Ok v) A' M' R h l g e =
    let w = subst (Good how ke k) (sym e) g in
    record { last = w.last; row = w.row; first = omega (arith, w.own); few = omega (arith, w.few) }

kept : (ke : ℕ) (A M : Mat) (mode : Mode) (limit k : ℕ) (T : Taken) (A' M' : Mat)
    → k < ke → LimitPre mode limit → tried T A' M' ≡ try_of ke A M (record { mode = mode; limit = limit }) k → TakenIn ke k T
kept ke A M Fail limit k T A' M' h l e =
    let none : Pivoting = record { mode = Fail; limit = 0 } in
    tried-in none ke k T A' M' (try_of ke A M none k) h (omega arith) (try-good ke A M none k h) (e ∙ fail-limit ke A M limit k)
kept ke A M (Lift floor) limit k T A' M' h l e =
    let how : Pivoting = record { mode = Lift floor; limit = limit } in
    tried-in how ke k T A' M' (try_of ke A M how k) h l (try-good ke A M how k h) e

-- ---- a step: C is the choice, T the answer, A' and M' what is left

pub single-pre : (at : Frame) (k : ℕ) (c : Chosen) (len len_m : ℕ) (C : Choice) → StepPre at k k len len_m → C ≡ Single c → ChoiceWithin k at.ke C
    → PivotPre at k k c.kp.0 len len_m
single-pre at k c len len_m C h z g = let w = subst (ChoiceWithin k at.ke) z g in record { step = h; from = w.low; row = w.high }

pub block-pre : (at : Frame) (k : ℕ) (c : Chosen) (len len_m : ℕ) (C : Choice) → StepPre at k k len len_m → C ≡ Block c → ChoiceWithin k at.ke C
    → PivotPre at k (k + 1) c.kp.0 len len_m × Within k at.ke c.p.0
block-pre at k c len len_m C h z g =
    let w = subst (ChoiceWithin k at.ke) z g in
    let r = w.1 in
    (record { step = record { sizes = h.sizes; from = h.from; last = omega (arith, r.low, r.high) }; from = r.low; row = r.high }, w.0)

-- the choice at k, D by the mode and by its case o
module _ (ke : ℕ) (A M A' M' : Mat) (how : Pivoting) (k : Elim) (C D : Choice) (h : k.0 < ke) (l : LimitPre how.mode how.limit)
    (c : C ≡ choose_of A k.0 ke) (m : D ≡ by_mode how.mode k C) where
  abbrev Stepped : Taken → Type 0
  Stepped T = (tried T A' M' ≡ try_of ke A M how k.0) × TakenIn ke k.0 T

  stepped : (T : Taken) → tried T A' M' ≡ try_of ke A M how k.0 → Stepped T
  stepped T e = (e, kept ke A M how.mode how.limit k.0 T A' M' h l e)

  pub step-zero : D ≡ ZeroColumn → Stepped (Err (refusal.ZeroColumn k))
  step-zero z =
      stepped (Err (refusal.ZeroColumn k))
      (zero-by ke A M A' M' how.mode how.limit k C (sym m ∙ z) ∙ by-choice ke A M how k C D ZeroColumn c m z)

  pub step-single : (o : Chosen) (T : Taken) → D ≡ Single o → tried T A' M' ≡ single_of ke A M how.mode k.0 o → Stepped T
  step-single o T z r =
      stepped T (r ∙ one-by ke A M how.mode how.limit k.0 o ∙ by-choice ke A M how k C D (Single o) c m z)

  pub step_block : (o : Chosen) (T : Taken) → D ≡ Block o → tried T A' M' ≡ two_of ke (exchanged k.0 o.p.0 ke A) M how.mode how.limit k.0 o → Stepped T
  step_block o T z r =
      stepped T (r ∙ two-by ke A M how.mode how.limit k.0 o ∙ by-choice ke A M how k C D (Block o) c m z)
