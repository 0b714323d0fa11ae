-- A call's numbers beside what it left. Assumes nothing.
use Rattle.std.specs.Prelude.{ℤ, Ok, Err}
use mathlib.Core.Path.{◌≡◌, refl, ap, ◌∙◌}
use mathlib.Core.List.{List}
use Prim.Native.Nat.{ℕ}
use native.Mathlib.Omega.{arith}
use lib.Ieee.{Float}
use Rattle.model.specs.Answer.{Said, Applied, applied_says}
use Rattle.model.specs.Factor as factor
use Rattle.model.specs.Assembly.{Panelled}
use Rattle.model.specs.Solve.{Solved}
use Rattle.model.specs.Lapack.{Listed, Read}
use Rattle.model.specs.declared.Report.{Report}
use Rattle.model.proofs.Numbered.{numbered-above}
use Rattle.outcome.specs.Numbers.{factor_numbers, panel_numbers}
use Rattle.outcome.specs.declared.Outcome.{Outcome}
use Rattle.capi.specs.Left.{FactorLeft, factor_left, PanelLeft, panel_left, VectorLeft, vector_left, ListLeft, list_left, OrderLeft, order_left}

pub factor-left :
    {r : Outcome} {said : Said Report} {b : factor.Buffers} {o : factor.Outcome} → r ≡ factor_numbers said
    → ◌≡◌ {A = factor.Outcome} (record { answer = said; buffers = b }) o → ◌≡◌ {A = FactorLeft} (record { outcome = r; buffers = b }) (factor_left o)
unfolding factor_left
factor-left {b = b} p e = ap (λ (y : Outcome). record { outcome = y; buffers = b }) p ∙ ap factor_left e

pub panel-left :
    {r : Outcome} {said : Said (Unit {0})} {p : List Float} {o : Panelled} → r ≡ panel_numbers said
    → ◌≡◌ {A = Panelled} (record { answer = said; panel = p }) o → ◌≡◌ {A = PanelLeft} (record { outcome = r; panel = p }) (panel_left o)
unfolding panel_left
panel-left {p = p} q e = ap (λ (y : Outcome). record { outcome = y; panel = p }) q ∙ ap panel_left e

pub vector-left :
    {r : Outcome} {said : Said (Unit {0})} {v : List Float} {o : Solved} → r ≡ panel_numbers said
    → ◌≡◌ {A = Solved} (record { answer = said; vector = v }) o → ◌≡◌ {A = VectorLeft} (record { outcome = r; vector = v }) (vector_left o)
unfolding vector_left
vector-left {v = v} q e = ap (λ (y : Outcome). record { outcome = y; vector = v }) q ∙ ap vector_left e

pub list-left :
    {r : Outcome} {said : Said (Unit {0})} {l : List ℤ} {o : Listed} → r ≡ panel_numbers said
    → ◌≡◌ {A = Listed} (record { answer = said; list = l }) o → ◌≡◌ {A = ListLeft} (record { outcome = r; list = l }) (list_left o)
unfolding list_left
list-left {l = l} q e = ap (λ (y : Outcome). record { outcome = y; list = l }) q ∙ ap list_left e

pub order-left :
    {r : Outcome} {said : Said (Unit {0})} {rows bytes : List ℕ} {o : Read} → r ≡ panel_numbers said
    → ◌≡◌ {A = Read} (record { answer = said; order = rows; blocks = bytes }) o
    → ◌≡◌ {A = OrderLeft} (record { outcome = r; order = rows; blocks = bytes }) (order_left o)
unfolding order_left
order-left {rows = rows} {bytes = bytes} q e = ap (λ (y : Outcome). record { outcome = y; order = rows; blocks = bytes }) q ∙ ap order_left e

-- number 0 is acceptance
pub by-number : (a : Applied) (r : Outcome) → r ≡ panel_numbers (applied_says a) → r.number ≡ 0 → a ≡ Ok tt
by-number (Ok u) r e h = refl
by-number (Err why) r e h = absurd (omega (arith, ap (λ (y : Outcome). y.number) e, numbered-above why))
