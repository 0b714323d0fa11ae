-- Laws of the buffers before the first panel and after a refusal. Assumes nothing.
use mathlib.Core.Path.{◌≡◌, ◌∙◌, fun_ext}
use mathlib.Core.List.{List}
use Prim.Native.Nat.{ℕ, ◌+◌, ◌<◌, ◌≤◌}
use native.Mathlib.Omega.{arith}
use borrow.Author.Tests.{ltb-true, ltb-false, eqb-true, eqb-false}
use lib.Dec.{ltb, eqb}
use lib.ListN.{length, get_or, set, replicate, get_or-eq_default}
use lib.Seq.{get_or-set_same, get_or-set_other}
use lib.Ieee.{Float}
use Rattle.model.specs.Matrix.{view, naturals, places, tabulate}
use Rattle.model.specs.Step.{pivots_of}
use Rattle.model.specs.Head.{State, blank}
use Rattle.model.specs.Factor.{Buffers, lent_in, SameLent, start, zeros}
use Rattle.model.specs.declared.LentBuffers.{LentBuffers}
use Rattle.model.proofs.Stores.{naturals-zeros}
use Rattle.model.proofs.Tabulated.{length-tabulate_from, get_d_tabulate, is-tabulate}
use Rattle.model.proofs.Cases.{test}
use Rattle.buffers.specs.Buffers.{in_order, begun_of}

-- ---- the order

pub order-step : (xs : List ℕ) (i n : ℕ) → i < n → length xs ≡ n → ((k : ℕ) → k < i → get_or xs k 0 ≡ k) → (k : ℕ) → k < i + 1 → get_or (set xs i i) k 0 ≡ k
order-step xs i n h l e k m =
    test (eqb k i)
    (λ p. rw (eqb-true k i p) (get_or-set_same xs i i 0 (omega arith)))
    (λ p. get_or-set_other xs i k i 0 (eqb-false k i p) ∙ e k (omega (arith, eqb-false k i p)))

pub order-end : (xs : List ℕ) (i n : ℕ) → n ≤ i → length xs ≡ n → ((k : ℕ) → k < i → get_or xs k 0 ≡ k) → xs ≡ in_order n
unfolding in_order
order-end xs i n h l e = is-tabulate n (λ k. k) 0 xs l (λ k m. e k (omega arith))

-- ---- the buffers before the first panel

-- such lists as the definitions see them: no block, no lift, every row in its place
pub places-in_order : (n : ℕ) → places (in_order n) ≡ (λ i. i)
unfolding places in_order
places-in_order n =
    fun_ext λ i. test (ltb i n)
    (λ p. get_d_tabulate n i (λ k. k) i (ltb-true i n p))
    (λ p. get_or-eq_default (tabulate n (λ k. k)) i (omega (arith, length-tabulate_from 0 n (λ k. k), ltb-false i n p)))

-- the state at the start of the run, with l the buffers as they begin; the exchange partners are the run's own
pub begun-start : (given : List Float) (b l : Buffers) (partners : List ℕ) (nrow ncol : ℕ) → l ≡ begun_of given b → length b.d ≡ ncol → length b.sub ≡ ncol
    → length b.amounts ≡ ncol → naturals partners ≡ (λ i. 0)
    → ◌≡◌ {A = State} (record {
      a = view nrow l.panel;
      mult = blank;
      pivots = pivots_of l.d l.sub l.blocks partners l.lifts l.amounts l.tests l.order;
      rounds = 0;
    }) (start ncol (view nrow given))
unfolding start
begun-start given b l partners nrow ncol e d s a p =
    let eb : naturals (replicate (length b.blocks) 0) ≡ (λ i. 0) = naturals-zeros (length b.blocks) in
    let el : naturals (replicate (length b.lifts) 0) ≡ (λ i. 0) = naturals-zeros (length b.lifts) in
    let et : naturals (replicate (length b.tests) 0) ≡ (λ i. 0) = naturals-zeros (length b.tests) in
    let eo : places (in_order (length b.order)) ≡ (λ i. i) = places-in_order (length b.order) in
    rw (e, d, s, a, eb, el, et, eo, p)

-- ---- zeros

-- they turn on the lengths alone
pub zeros-same : (x y : LentBuffers) → SameLent x y → zeros (lent_in y) ≡ zeros (lent_in x)
zeros-same x y h =
    rw (
      h.panel.count,
      h.d.count,
      h.sub.count,
      h.blocks.count,
      h.lifts.count,
      h.amounts.count,
      h.tests.count,
      h.order.count,
      h.marks.count,
      h.work.count,
    )
