-- The head's elimination: pivots within a panel, panels in turn. From docs/SCOPE.md, "A 1x1 pivot", "A block" and "The factor call".
-- Definitions only. Assumes nothing.
use Rattle.std.specs.Prelude.{Bool, cond, ◌&&◌, List, [], ◌∷◌, ℕ, zero, suc, ◌+◌, ◌-◌, min, leb, ltb, eqb, Float, Option, Some, None, Result, Ok, Err}
use Rattle.std.specs.Float.Ieee.{lt, le, eq}
use Rattle.model.specs.Scalar.{◌⊕◌, ◌⊖◌, ◌⊗◌, zero_f, reciprocal_of, magnitude_of, maximum_of, lift_of, growth_eps}
use Rattle.model.specs.Root.{sqrt_of}
use Rattle.model.specs.Matrix.{Mat, put, swapped, exchanged, with_column}
use Rattle.model.specs.Choice.{choose_of, test_number, with_row}
use Rattle.model.specs.Step.{one, two, Diagonals, Notes, Pivots, block_of, block_in, is_block, first_number, last_number, under_number, first_multiplier}
use Rattle.model.specs.Step.{second_multiplier, eliminated, row_after_steps}
use Rattle.model.specs.Panel.{Panel, row_after_panel}
use Rattle.model.specs.declared.Mode.{Mode}
use Rattle.model.specs.declared.Mode.TheVariants.{Fail, Lift}
use Rattle.model.specs.declared.Pivoting.{Pivoting}
use Rattle.model.specs.declared.Block.{Block}
use Rattle.model.specs.declared.Diagonal.{Diagonal}
use Rattle.model.specs.declared.Diagonal.TheVariants.{One, Two}
use Rattle.model.specs.declared.Pivot.{Pivot}
use Rattle.model.specs.declared.Choice.{Choice}
use Rattle.model.specs.declared.Choice.TheVariants as choice
use Rattle.model.specs.declared.Chosen.{Chosen}
use Rattle.model.specs.declared.PivotTest.TheVariants as by
use Rattle.model.specs.declared.OneSettled.{OneSettled}
use Rattle.model.specs.declared.TwoSettled.{TwoSettled}
use Rattle.model.specs.declared.Unfit.{Unfit}
use Rattle.model.specs.declared.Unfit.TheVariants.{Low, OutOfRounds}
use Rattle.model.specs.declared.Refusal.{Refusal}
use Rattle.model.specs.declared.Refusal.TheVariants as refusal

-- the head, the multipliers of the panel at work, the pivots so far, the rounds so far
pub record State : Type 0 where
  pub a : Mat
  pub mult : Mat
  pub pivots : Pivots
  pub rounds : ℕ

-- ---- the numbers of a pivot, lifted where the mode asks it

-- a 1x1: in Fail a zero is refused; in Lift it is lifted if |d| < floor, strictly, and the amount is new less old
unfoldable pub settled_one : Mode → Float → Option OneSettled
settled_one Fail d = cond (eq d zero_f) None (Some (record { d = d; lift = None }))
settled_one (Lift floor) d =
    let new = lift_of floor d in
    let lifted : Option OneSettled = Some (record { d = new; lift = Some (new ⊖ d) }) in
    cond (lt (magnitude_of d) floor) lifted (Some (record { d = d; lift = None }))

-- 'scale', the greatest magnitude; the 'growth floor', (1e-14·scale)·scale
abbrev pub scale_of : Block → Float
scale_of b = maximum_of (maximum_of (magnitude_of b.d11) (magnitude_of b.d22)) (magnitude_of b.d21)

abbrev pub growth_floor_of : Block → Float
growth_floor_of b = growth_eps ⊗ scale_of b ⊗ scale_of b

-- rounds of a block's lift: `left` may still be tried, `r` is the round at hand, `sum` the r-fold running sum of step.
-- The first try whose |det| is not below the bar ends it: a not-a-number is not below.
unfoldable pub raised_from : Block → Float → Float → ℕ → ℕ → Float → Result TwoSettled Unfit
raised_from b bar step zero r sum = Err OutOfRounds
raised_from b bar step (suc left) r sum =
    let tried = block_of (b.d11 ⊕ sum) b.d21 (b.d22 ⊕ sum) in
    let again = raised_from b bar step left (r + 1) (sum ⊕ step) in
    let enough : Result TwoSettled Unfit = Ok (record { block = tried; lift = Some sum; rounds = r }) in
    cond (lt (magnitude_of tried.det) bar) again enough

-- 'bar = max(floor², growth floor)' and 'step = max(floor, scale·√1e-14)'
abbrev pub bar_of : Float → Block → Float
bar_of floor b = maximum_of (floor ⊗ floor) (growth_floor_of b)

abbrev pub lift_step_of : Float → Block → Float
lift_step_of floor b = maximum_of floor (scale_of b ⊗ sqrt_of growth_eps)

-- a block as it is
abbrev pub unlifted : Block → TwoSettled
unlifted b = record { block = b; lift = None; rounds = 0 }

-- a block against its growth floor: refused in Fail; in Lift a lift, refused where the limit is too small
unfoldable pub settled_two : Mode → ℕ → Block → Result TwoSettled Unfit
settled_two Fail limit b = cond (le (magnitude_of b.det) (growth_floor_of b)) (Err Low) (Ok (unlifted b))
settled_two (Lift floor) limit b =
    let raised = raised_from b (bar_of floor b) (lift_step_of floor b) limit 1 (lift_step_of floor b) in
    cond (lt (magnitude_of b.det) (bar_of floor b)) raised (Ok (unlifted b))

-- ---- a step: a refusal, or a pivot with the head and the multipliers after it

pub data Tried : Type 0 where
  refused_by : Refusal → Tried
  took : Pivot → Mat → Mat → Tried

-- the panel's rows after a 1x1 pivot d at k, each up to its own column; the diagonal holds d
unfoldable pub head_one : ℕ → ℕ → Float → Mat → Mat
head_one ke k d a = λ i.
    let row = eliminated (one k k d (λ j. a j k ⊗ reciprocal_of d)) (i + 1) (a i) in
    cond (ltb k i && ltb i ke) row (cond (eqb i k) (put (a i) k d) (a i))

-- and after a block at k and k + 1: its own three numbers stay as they were before a lift
unfoldable pub head_two : ℕ → ℕ → Block → Mat → Mat
head_two ke k b a = λ i.
    let row = eliminated (two k k b (λ j. first_multiplier b (a j k) (a j (k + 1))) (λ j. second_multiplier b (a j k) (a j (k + 1)))) (i + 1) (a i) in
    cond (ltb (k + 1) i && ltb i ke) row (a i)

-- the multipliers that the step keeps for the rows below the panel
unfoldable pub kept_one : ℕ → ℕ → Float → Mat → Mat → Mat
kept_one ke k d a mult = with_column mult k (k + 1) ke (λ j. a j k ⊗ reciprocal_of d)

unfoldable pub kept_two : ℕ → ℕ → Block → Mat → Mat → Mat
kept_two ke k b a mult =
    with_column (with_column mult k (k + 2) ke (λ j. first_multiplier b (a j k) (a j (k + 1)))) (k + 1) (k + 2) ke
    (λ j. second_multiplier b (a j k) (a j (k + 1)))

module _ (ke : ℕ) (a₀ mult : Mat) where
  -- a 1x1 at k, as chosen: exchanged with its row kp
  abbrev pub after_one : ℕ → Chosen → Option OneSettled → Tried
  after_one k c None = refused_by (refusal.ZeroPivot (record { 0 = k }))
  after_one k c (Some s) =
      let a = exchanged k c.kp.0 ke a₀ in
      took (record { chosen = c; diagonal = One s.d; lift = s.lift; rounds = 0 }) (head_one ke k s.d a) (kept_one ke k s.d a mult)

  -- a block at k and k + 1, as chosen: k + 1 exchanged with its row kp; k was exchanged with its row p before
  abbrev pub after_two : ℕ → Chosen → Result TwoSettled Unfit → Tried
  after_two k c (Err Low) = refused_by (refusal.LowBlock (record { 0 = k }))
  after_two k c (Err OutOfRounds) = refused_by (refusal.Rounds (record { 0 = k }))
  after_two k c (Ok s) =
      let a = exchanged (k + 1) c.kp.0 ke a₀ in
      took (record { chosen = c; diagonal = Two s.block; lift = s.lift; rounds = s.rounds }) (head_two ke k s.block a) (kept_two ke k s.block a mult)

  -- the block is read after the exchange
  abbrev pub try_block : Mode → ℕ → ℕ → Chosen → Tried
  try_block mode limit k c =
      let a = exchanged (k + 1) c.kp.0 ke a₀ in
      after_two k c (settled_two mode limit (block_in a k))

-- the chosen 1x1 stands at row kp; a block's first exchange comes before all else; a zero column is refused in Fail and a 1x1 in Lift
abbrev pub try_by : ℕ → Mat → Mat → Mode → ℕ → ℕ → Choice → Tried
try_by ke a mult Fail limit k choice.ZeroColumn = refused_by (refusal.ZeroColumn (record { 0 = k }))
try_by ke a mult (Lift floor) limit k choice.ZeroColumn =
    after_one ke a mult k (with_row by.ZeroColumn k (record { 0 = k })) (settled_one (Lift floor) (a k k))
try_by ke a mult mode limit k (choice.Single c) = after_one ke a mult k c (settled_one mode (a c.kp.0 c.kp.0))
try_by ke a mult mode limit k (choice.Block c) = try_block ke (exchanged k c.p.0 ke a) mult mode limit k c

-- the step at k
unfoldable pub try_of : ℕ → Mat → Mat → Pivoting → ℕ → Tried
try_of ke a mult how k = try_by ke a mult how.mode how.limit k (choose_of a k ke)

-- ---- what is noted of a pivot

-- its last column
unfoldable pub last_of : ℕ → Bool → ℕ
last_of k block = cond block (k + 1) k

abbrev pub byte_of : Bool → ℕ
byte_of b = cond b 1 0

-- of a pivot in columns k to e: what stands at e is put first, so that a 1x1 keeps what is meant for k
abbrev pub with_diagonal : Diagonals → ℕ → ℕ → Diagonal → Diagonals
with_diagonal D k e x =
    record {
      d = put (put D.d e (last_number x)) k (first_number x);
      sub = put (put D.sub e zero_f) k (under_number x);
      blocks = put (put D.blocks e 0) k (byte_of (is_block x));
    }

-- a lift as the caller is told of it: its byte, 1 where there was one, and its amount, +0.0 where there was none
abbrev pub lift_byte : Option Float → ℕ
lift_byte None = 0
lift_byte (Some x) = 1

abbrev pub lift_amount : Option Float → Float
lift_amount None = zero_f
lift_amount (Some x) = x

abbrev pub with_notes : Notes → ℕ → ℕ → Pivot → Notes
with_notes n k e v =
    record {
      lifts = put (put n.lifts e (lift_byte v.lift)) k (lift_byte v.lift);
      amounts = put (put n.amounts e (lift_amount v.lift)) k (lift_amount v.lift);
      tests = put (put n.tests e (test_number v.chosen.test)) k (test_number v.chosen.test);
      order = swapped (swapped n.order k v.chosen.p.0) e v.chosen.kp.0;
    }

unfoldable pub noted : Pivots → ℕ → ℕ → Pivot → Pivots
noted p k e v =
    record {
      diagonals = with_diagonal p.diagonals k e v.diagonal;
      partners = put (put p.partners e v.chosen.p.0) k v.chosen.kp.0;
      notes = with_notes p.notes k e v;
    }

-- ---- a panel's steps in turn

-- a refusal, or the next column and the state there
pub data Progress : Type 0 where
  stopped : Refusal → Progress
  going : ℕ → State → Progress

abbrev pub after : Tried → State → ℕ → (ℕ → State → Progress) → Progress
after (refused_by r) s k f = stopped r
after (took v a m) s k f =
    let e = last_of k (is_block v.diagonal) in
    f (e + 1) (record { a = a; mult = m; pivots = noted s.pivots k e v; rounds = s.rounds + v.rounds })

-- at most n steps from column k on, up to ke
unfoldable pub panel_of : ℕ → Pivoting → ℕ → ℕ → State → Progress
panel_of ke how zero k s = going k s
panel_of ke how (suc n) k s =
    let next = after (try_of ke s.a s.mult how k) s k (panel_of ke how n) in
    cond (ltb k ke) next (going k s)

-- ---- panels in turn

pub data Run : Type 0 where
  refused : Refusal → Run
  done : State → List Panel → Run

-- no multiplier yet
unfoldable pub blank : Mat
blank i j = zero_f

-- the finished panel, with the head's rows from ke on after its steps
unfoldable pub closed : ℕ → ℕ → State → Panel
closed kb ke s =
    let D = s.pivots.diagonals in
    let partners = s.pivots.partners in
    record {
      kb = kb;
      ke = ke;
      diagonals = D;
      partners = partners;
      mult = s.mult;
      below = λ i. row_after_steps D partners s.mult ke (ke - kb) kb (s.a i);
    }

-- the later rows of the head go through the panel, each up to its own column
unfoldable pub passed : Panel → State → State
passed p s =
    let later : Mat = λ i. let row = row_after_panel p (i + 1) (s.a i) in cond (leb p.ke i) row (s.a i) in
    record { a = later; mult = blank; pivots = s.pivots; rounds = s.rounds }

abbrev pub with_panel : Panel → Run → Run
with_panel p (refused r) = refused r
with_panel p (done s ps) = done s (p ∷ ps)

abbrev pub continued : Progress → (State → Run) → Run
continued (stopped r) f = refused r
continued (going k s) f = f s

-- at most n panels of width nb from column kb on
unfoldable pub panels_of : Pivoting → ℕ → ℕ → ℕ → ℕ → State → Run
panels_of how ncol nb zero kb s = done s []
panels_of how ncol nb (suc n) kb s =
    let ke = min (kb + nb) ncol in
    let more =
    continued (panel_of ke how (ke - kb) kb s)
    (λ t. with_panel (closed kb ke t) (panels_of how ncol nb n ke (passed (closed kb ke t) t))) in
    cond (ltb kb ncol) more (done s [])
