-- Where the pivot search can end, and what a step's pivot keeps to: its rows and columns stand within the panel, its rounds within the limit, and its test is
-- one that can have chosen it. Assumes nothing.
use mathlib.Core.Path.{◌≡◌, refl, ◌∙◌, ap}
use mathlib.Core.Logic.{◌⊎◌, inl, inr, ⊎_elim}
use mathlib.Core.Bool.{Bool, true, false, cond, ◌&&◌, ◌||◌}
use Prim.Native.Nat.{ℕ, zero, suc, ◌+◌, ◌-◌, ◌*◌, ◌≤◌, ◌<◌}
use native.Mathlib.Omega.{arith}
use native.Mathlib.Nat.{zero-mul}
use borrow.Author.Tests.{eq-eqb, ltb-false}
use lib.Dec.{ltb, eqb}
use lib.Count.{count_trailing_zeros}
use lib.Ieee.{Float, nan, inf, fin, up, lt, le, eq, is_nan, of_bits, of_fields, odd, add, mul, div, sum, round, units, size, span, climb}
use Rattle.std.specs.Prelude.{Option, Some, None, Result, Ok, Err}
use Rattle.model.specs.Scalar.{◌⊕◌, ◌⊗◌, ◌⊘◌, zero_f, square_of, magnitude_of, maximum_of}
use Rattle.model.specs.Root.{sqrt_of, alpha, round_root, isqrt, whole_root}
use Rattle.model.specs.Matrix.{Row, Mat, exchanged}
use Rattle.model.specs.Choice.{greatest, none_yet, column_greatest, row_greatest, with_row, choose_of}
use Rattle.model.specs.Head.{settled_one, raised_from, unlifted, settled_two, bar_of, lift_step_of, growth_floor_of, Tried, refused_by, took, after_one, after_two, try_block}
use Rattle.model.specs.Head.{try_by, try_of, last_of}
use Rattle.model.specs.Step.{block_of, is_block}
use Rattle.model.specs.declared.Mode.{Mode}
use Rattle.model.specs.declared.Pivoting.{Pivoting}
use Rattle.model.specs.declared.Mode.TheVariants.{Fail, Lift}
use Rattle.model.specs.declared.Block.{Block}
use Rattle.model.specs.declared.LocalRow.{LocalRow}
use Rattle.model.specs.declared.Greatest.{Greatest}
use Rattle.model.specs.declared.Choice.{Choice}
use Rattle.model.specs.declared.Choice.TheVariants as choice
use Rattle.model.specs.declared.Chosen.{Chosen}
use Rattle.model.specs.declared.PivotTest.{PivotTest}
use Rattle.model.specs.declared.PivotTest.TheVariants as by
use Rattle.model.specs.declared.OneSettled.{OneSettled}
use Rattle.model.specs.declared.TwoSettled.{TwoSettled}
use Rattle.model.specs.declared.Unfit.{Unfit}
use Rattle.model.specs.declared.Unfit.TheVariants.{Low, OutOfRounds}
use Rattle.model.specs.declared.Pivot.{Pivot}
use Rattle.model.specs.Tests.{chooses_block, AllowedIn}
use Rattle.model.proofs.Cases.{test}

-- ---- the greatest square

-- nothing was greater, or the place lies among those searched
abbrev Found : ℕ → ℕ → Greatest → Greatest → Type 0
Found lo n best g = (g ≡ best) ⊎ ((lo ≤ g.at.0) × (g.at.0 < lo + n))

cond_either : {A : Type 0} (t : Bool) (a b : A) → (cond t a b ≡ a) ⊎ (cond t a b ≡ b)
cond_either true a b = inl refl
cond_either false a b = inr refl

pub greatest-where : (f : Row) (lo n : ℕ) (best : Greatest) → Found lo n best (greatest f lo n best)
unfolding greatest
greatest-where f lo zero best = inl refl
greatest-where f lo (suc n) best =
    let new : Greatest = record { square = square_of (f lo); at = record { 0 = lo } } in
    ⊎_elim (λ e. ⊎_elim (λ x. at-lo (e ∙ x)) (λ x. inl (e ∙ x)) (cond_either (lt best.square (square_of (f lo))) new best))
    (λ h. let a = h.0 in let b = h.1 in inr (omega arith, omega arith))
    (greatest-where f (lo + 1) n (cond (lt best.square (square_of (f lo))) new best))
  where
    at-lo : {g : Greatest} → g ≡ record { square = square_of (f lo); at = record { 0 = lo } } → Found lo (suc n) best g
    at-lo {g} e = let p : g.at.0 ≡ lo = ap (λ (r : Greatest). r.at.0) e in inr (omega arith, omega arith)

-- ---- the choice

-- a test that chooses a block, or a 1x1, in either mode
pub record Chooses (block : Bool) (t : PivotTest) : Type 0 where
  pub kind : chooses_block t ≡ block
  pub allowed : (mode : Mode) → AllowedIn mode t

-- what was chosen at k: its rows stand in the panel, none before k, the first exchange is none, as the tests stand; by a test that chooses such a pivot
pub record ChosenIn (k ke : ℕ) (block : Bool) (c : Chosen) : Type 0 where
  pub from : last_of k block ≤ c.kp.0
  pub row : c.kp.0 < ke
  pub own : c.p.0 ≡ k
  pub by_test : Chooses block c.test

-- what a choice may name
abbrev pub ChoiceIn : ℕ → ℕ → Choice → Type 0
ChoiceIn k ke choice.ZeroColumn = Unit {0}
ChoiceIn k ke (choice.Single c) = ChosenIn k ke false c
ChoiceIn k ke (choice.Block c) = ChosenIn k ke true c

either-chosen : (k ke : ℕ) (t : Bool) (a b : Choice) → ChoiceIn k ke a → ChoiceIn k ke b → ChoiceIn k ke (cond t a b)
either-chosen k ke true a b p q = p
either-chosen k ke false a b p q = q

-- where nothing below the diagonal has a square above 0, the bar is +0.0
colmax-zero : sqrt_of zero_f ≡ zero_f
unfolding sqrt_of of_bits of_fields odd count_trailing_zeros
colmax-zero = refl

bar-zero : alpha ⊗ zero_f ≡ zero_f
unfolding sqrt_of round_root isqrt whole_root alpha add mul div sum round units size span climb of_bits of_fields odd count_trailing_zeros
bar-zero = refl

level-or-below : (a b : ℕ) → a ≤ b → ltb a b || (eqb a b && (true || eqb a 0)) ≡ true
level-or-below a b h = test (ltb a b) (λ t. rw t) (λ t. rw (t, eq-eqb a b (omega (arith, ltb-false a b t))))

-- and a diagonal that is a number reaches it; one that is none leaves a zero column
own-or-zero : (x : Float) → (le zero_f (magnitude_of x) ≡ true) ⊎ (eq (maximum_of (magnitude_of x) zero_f) zero_f ≡ true)
unfolding magnitude_of maximum_of is_nan le lt eq of_bits of_fields odd count_trailing_zeros
own-or-zero nan = inr refl
own-or-zero (inf s) = inl refl
own-or-zero (fin s m e) = inl (rw zero-mul (level-or-below 0 (m * up e * 1) (omega arith)))

column-where : (a : Mat) (k ke : ℕ)
    → (column_greatest a k ke ≡ none_yet k) ⊎ ((k + 1 ≤ (column_greatest a k ke).at.0) × ((column_greatest a k ke).at.0 < k + 1 + (ke - (k + 1))))
unfolding column_greatest
column-where a k ke = greatest-where (λ i. a i k) (k + 1) (ke - (k + 1)) (none_yet k)

-- the column scan ends within the panel
pub column-in : (a : Mat) (k ke : ℕ) → k < ke → (k ≤ (column_greatest a k ke).at.0) × ((column_greatest a k ke).at.0 < ke)
column-in a k ke h =
    ⊎_elim (λ e. let p : (column_greatest a k ke).at.0 ≡ k = ap (λ (g : Greatest). g.at.0) e in (omega arith, omega arith))
    (λ p. let l = p.0 in let r = p.1 in (omega arith, omega arith)) (column-where a k ke)

abbrev row : ℕ → LocalRow
row i = record { 0 = i }

with-row-in : {block : Bool} {t : PivotTest} (k ke : ℕ) (at : LocalRow) → last_of k block ≤ at.0 → at.0 < ke → Chooses block t
    → ChosenIn k ke block (with_row t k at)
with-row-in k ke at l h w = record { from = l; row = h; own = refl; by_test = w }

none-chosen : {t : PivotTest} (k ke : ℕ) (x : Float) (rest : Choice) → k < ke → Chooses false t
    → ChoiceIn k ke (cond (eq (maximum_of (magnitude_of x) zero_f) zero_f) choice.ZeroColumn
    (cond (le zero_f (magnitude_of x)) (choice.Single (with_row t k (row k))) rest))
unfolding last_of
none-chosen k ke x rest h w =
    ⊎_elim
    (λ t. rw t (either-chosen k ke (eq (maximum_of (magnitude_of x) zero_f) zero_f) choice.ZeroColumn _ tt (with-row-in k ke (row k) (omega arith) h w)))
    (λ t. rw t tt) (own-or-zero x)

some-chosen : {t u v w : PivotTest} (k ke : ℕ) (at : LocalRow) (zero own by_row other : Bool) → k < at.0 → at.0 < ke
    → Chooses false t → Chooses false u → Chooses false v → Chooses true w
    → ChoiceIn k ke (cond zero choice.ZeroColumn (cond own (choice.Single (with_row t k (row k)))
    (cond by_row (choice.Single (with_row u k (row k))) (cond other (choice.Single (with_row v k at)) (choice.Block (with_row w k at))))))
unfolding last_of
some-chosen k ke at true own by_row other l r a b c d = tt
some-chosen k ke at false true by_row other l r a b c d = with-row-in k ke (row k) (omega arith) (omega arith) a
some-chosen k ke at false false true other l r a b c d = with-row-in k ke (row k) (omega arith) (omega arith) b
some-chosen k ke at false false false true l r a b c d = with-row-in k ke at (omega arith) r c
some-chosen k ke at false false false false l r a b c d = with-row-in k ke at (omega arith) r d

-- a block's two rows are different rows of the panel, so it never crosses ke
pub choose-in : (a : Mat) (k ke : ℕ) → k < ke → ChoiceIn k ke (choose_of a k ke)
unfolding choose_of
choose-in a k ke h =
    ⊎_elim
    (λ e. let colmax : sqrt_of (column_greatest a k ke).square ≡ zero_f = ap (λ (g : Greatest). sqrt_of g.square) e ∙ colmax-zero in
    rw (colmax, bar-zero) (none-chosen k ke (a k k) _ h (record { kind = refl; allowed = λ mode. tt })))
    (λ p. let l = p.0 in
    let r = p.1 in
    let own = magnitude_of (a k k) in
    let at = (column_greatest a k ke).at in
    let colmax = sqrt_of (column_greatest a k ke).square in
    let rowmax = sqrt_of (row_greatest a k ke at.0).square in
    some-chosen k ke at (eq (maximum_of own colmax) zero_f) (le (alpha ⊗ colmax) own) (le (alpha ⊗ colmax ⊗ (colmax ⊘ rowmax)) own)
    (le (alpha ⊗ rowmax) (magnitude_of (a at.0 at.0))) (omega arith) (omega arith) (record { kind = refl; allowed = λ mode. tt })
    (record { kind = refl; allowed = λ mode. tt }) (record { kind = refl; allowed = λ mode. tt }) (record { kind = refl; allowed = λ mode. tt }))
    (column-where a k ke)

-- ---- a step

-- the pivot stands within the panel, as it was chosen; its test is allowed in the mode; its rounds keep to the limit
pub record GoodPivot (how : Pivoting) (ke k : ℕ) (v : Pivot) : Type 0 where
  pub last : last_of k (is_block v.diagonal) < ke
  pub from : last_of k (is_block v.diagonal) ≤ v.chosen.kp.0
  pub row : v.chosen.kp.0 < ke
  pub own : v.chosen.p.0 ≡ k
  pub few : v.rounds ≤ how.limit
  pub kind : chooses_block v.chosen.test ≡ is_block v.diagonal
  pub allowed : AllowedIn how.mode v.chosen.test

abbrev pub Good : Pivoting → ℕ → ℕ → Tried → Type 0
Good how ke k (refused_by r) = Unit {0}
Good how ke k (took v a m) = GoodPivot how ke k v

-- a block's rounds
abbrev pub FewRounds : ℕ → Result TwoSettled Unfit → Type 0
FewRounds limit (Err e) = Unit {0}
FewRounds limit (Ok s) = s.rounds ≤ limit

either-few : (limit : ℕ) (t : Bool) (a b : Result TwoSettled Unfit) → FewRounds limit a → FewRounds limit b → FewRounds limit (cond t a b)
either-few limit true a b p q = p
either-few limit false a b p q = q

raised-few : (limit : ℕ) (b : Block) (bar step : Float) (left r : ℕ) (sum : Float) → r + left ≤ limit + 1 → FewRounds limit (raised_from b bar step left r sum)
unfolding raised_from
raised-few limit b bar step zero r total h = tt
raised-few limit b bar step (suc left) r total h =
    let tried = block_of (b.d11 ⊕ total) b.d21 (b.d22 ⊕ total) in
    either-few limit (lt (magnitude_of tried.det) bar) (raised_from b bar step left (r + 1) (total ⊕ step)) (Ok (record { block = tried; lift = Some total; rounds = r }))
    (raised-few limit b bar step left (r + 1) (total ⊕ step) (omega arith)) (omega arith)

pub settled-few : (mode : Mode) (limit : ℕ) (b : Block) → FewRounds limit (settled_two mode limit b)
unfolding settled_two
settled-few Fail limit b = either-few limit (le (magnitude_of b.det) (growth_floor_of b)) (Err Low) (Ok (unlifted b)) tt (omega arith)
settled-few (Lift floor) limit b =
    either-few limit (lt (magnitude_of b.det) (bar_of floor b)) (raised_from b (bar_of floor b) (lift_step_of floor b) limit 1 (lift_step_of floor b))
    (Ok (unlifted b))
    (raised-few limit b (bar_of floor b) (lift_step_of floor b) limit 1 (lift_step_of floor b) (omega arith)) (omega arith)

module _ (how : Pivoting) (ke : ℕ) (a m : Mat) (k : ℕ) (c : Chosen) where
  one-good : (s : Option OneSettled) → k ≤ c.kp.0 → c.kp.0 < ke → c.p.0 ≡ k → chooses_block c.test ≡ false → AllowedIn how.mode c.test
      → Good how ke k (after_one ke a m k c s)
  unfolding last_of
  one-good None l r o b w = tt
  one-good (Some s) l r o b w = record { last = omega arith; from = l; row = r; own = o; few = omega arith; kind = b; allowed = w }

  two_good : (s : Result TwoSettled Unfit) → FewRounds how.limit s → ChosenIn k ke true c → Good how ke k (after_two ke a m k c s)
  unfolding last_of
  two_good (Err Low) f w = tt
  two_good (Err OutOfRounds) f w = tt
  two_good (Ok s) f w = record {
    last = omega (arith, w.from, w.row);
    from = w.from;
    row = w.row;
    own = w.own;
    few = f;
    kind = w.by_test.kind;
    allowed = w.by_test.allowed how.mode;
  }

  block-good : ChosenIn k ke true c → Good how ke k (try_block ke a m how.mode how.limit k c)
  block-good = two_good (settled_two how.mode how.limit _) (settled-few how.mode how.limit _)

module _ (ke : ℕ) (a m : Mat) (limit k : ℕ) where
  -- a 1x1 that a test chose
  single-good : (mode : Mode) (c : Chosen) (s : Option OneSettled) → ChosenIn k ke false c
      → Good (record { mode = mode; limit = limit }) ke k (after_one ke a m k c s)
  unfolding last_of
  single-good mode c s w = one-good (record { mode = mode; limit = limit }) ke a m k c s w.from w.row w.own w.by_test.kind (w.by_test.allowed mode)

  by-good : (mode : Mode) (o : Choice) → k < ke → ChoiceIn k ke o → Good (record { mode = mode; limit = limit }) ke k (try_by ke a m mode limit k o)
  by-good Fail choice.ZeroColumn h w = tt
  by-good (Lift floor) choice.ZeroColumn h w =
      one-good (record { mode = Lift floor; limit = limit }) ke a m k (with_row by.ZeroColumn k (row k)) (settled_one (Lift floor) (a k k))
      (omega arith) h refl refl tt
  by-good Fail (choice.Single c) h w = single-good Fail c (settled_one Fail (a c.kp.0 c.kp.0)) w
  by-good (Lift floor) (choice.Single c) h w = single-good (Lift floor) c (settled_one (Lift floor) (a c.kp.0 c.kp.0)) w
  by-good Fail (choice.Block c) h w = block-good (record { mode = Fail; limit = limit }) ke (exchanged k c.p.0 ke a) m k c w
  by-good (Lift floor) (choice.Block c) h w = block-good (record { mode = Lift floor; limit = limit }) ke (exchanged k c.p.0 ke a) m k c w

pub try-good : (ke : ℕ) (a m : Mat) (how : Pivoting) (k : ℕ) → k < ke → Good how ke k (try_of ke a m how k)
unfolding try_of
try-good ke a m how k h = by-good ke a m how.limit k how.mode (choose_of a k ke) h (choose-in a k ke h)
