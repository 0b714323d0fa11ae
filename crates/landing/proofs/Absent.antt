-- Refusal 17: past the first landing each of the descendant's rows is sought among the target's, and before it none is. Assumes nothing.
use mathlib.Core.Path.{◌≡◌, refl, ◌∙◌}
use mathlib.Core.Bool.{true, false, ◌&&◌}
use Prim.Native.Nat.{ℕ, zero, suc, ◌+◌, ◌-◌}
use native.Mathlib.Omega.{arith}
use lib.Dec.{leb, ltb}
use lib.ListN.{length}
use Rattle.model.specs.Matrix.{naturals}
use Rattle.model.specs.Assembly.{first_not}
use Rattle.model.specs.Update.{Target, place_from, absent_from}
use Rattle.model.specs.declared.Refusal.TheVariants.{AbsentRow}
use Rattle.model.proofs.Cases.{test}
use Rattle.landing.specs.Rows.{lands_on, lands_at, first_from, there_at}
use Rattle.landing.proofs.Scans.{First, first-is}

module _ (t : Target) (krows : ℕ → ℕ) (len : length t.rows ≡ t.nrow) where
  -- past a landing every row is sought
  absent-landed : (m i : ℕ) → absent_from t krows m i true ≡ first_not (there_at t.rows krows) AbsentRow m i
  unfolding absent_from first_not there_at
  absent-landed zero i = refl
  absent-landed (suc m) i =
      rw len (test (ltb (place_from (naturals t.rows) (krows i) t.nrow 0) t.nrow)
      (λ e. rw e (absent-landed m (i + 1))) (λ e. rw e))

  abbrev landing : ℕ → ℕ → ℕ
  landing m i = first_from (lands_at t.first t.ncol krows) m i

  -- before it none is
  absent-start : (m i : ℕ) → absent_from t krows m i false ≡ absent_from t krows (i + m - landing m i) (landing m i) true
  unfolding absent_from first_from lands_at lands_on
  absent-start zero i = let e : i + 0 - i ≡ 0 = omega arith in rw e
  absent-start (suc m) i =
      let f : First (lands_at t.first t.ncol krows) (i + 1) (i + 1 + m) (landing m (i + 1)) = first-is (lands_at t.first t.ncol krows) m (i + 1) in
      test (leb t.first (krows i) && ltb (krows i) (t.first + t.ncol))
      (λ e. let z : i + suc m - i ≡ suc m = omega arith in rw (e, z))
      (λ e. let z : i + suc m - landing m (i + 1) ≡ i + 1 + m - landing m (i + 1) = omega arith in
      rw (e, z) (absent-start m (i + 1)))

  pub absent-is : (m start : ℕ) → start ≡ first_from (lands_at t.first t.ncol krows) m 0
      → absent_from t krows m 0 false ≡ first_not (there_at t.rows krows) AbsentRow (m - start) start
  absent-is m start e =
      let z : 0 + m - start ≡ m - start = omega arith in
      absent-start m 0 ∙ rw (← e, z) (absent-landed (m - start) start)
