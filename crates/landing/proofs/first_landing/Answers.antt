-- `landing::first_landing` meets its contract: the place that `position` finds, or the count. Assumes nothing.
use mathlib.Core.Path.{◌≡◌, refl, ◌∙◌}
use mathlib.Core.Bool.{cond}
use Prim.Native.Nat.{ℕ, ◌≤◌}
use native.Mathlib.Omega.{arith}
use borrow.Author.Tests.{ltb-false, tests}
use borrow.Author.Rules.{rules}
use lib.Dec.{ltb}
use lib.ListN.{length}
use Rattle.std.specs.Prelude.{Some, None}
use Rattle.std.specs.List.{position_or_len}
use Rattle.std.specs.Option.{unwrap_or}
use Rattle.std.proofs.lemmas.Iterator.{YieldsList-from_slice}
use Rattle.std.proofs.lemmas.Iterator.Search.{position_from_yields_List}
use Rattle.model.specs.Matrix.{naturals}
use Rattle.model.proofs.Cases.{test}
use Rattle.landing.specs.Rows.{lands_on, lands_at, first_from}
use Rattle.landing.proofs.Scans.{first-position, first-is}
use Rattle.landing.proofs.first_landing.Goals as goal

or-end : (p n : ℕ) → p ≤ n → unwrap_or (cond (ltb p n) (Some p) None) n ≡ p
or-end p n h = test (ltb p n) (λ t. rw t) (λ t. rw t (omega (arith, ltb-false p n t)))

pub returns : goal.returns
unfolding lands_at naturals
returns c =
    let first = c.args.t.first.0 in
    let n = length c.args.krows.now in
    let f = lands_at first c.args.t.ncol (naturals c.args.krows.now) in
    let found : c.position.result ≡ cond (ltb (position_or_len (λ g. lands_on first c.args.t.ncol g) c.args.krows.now) n)
    (Some (position_or_len (λ g. lands_on first c.args.t.ncol g) c.args.krows.now)) None
    = position_from_yields_List (λ g. lands_on first c.args.t.ncol g) _ _ c.position.result c.position.ensures.ran
    (YieldsList-from_slice _ c.iter.ensures.rest) (λ x b q k. search (rules, tests)) in
    let place : position_or_len (λ g. lands_on first c.args.t.ncol g) c.args.krows.now ≡ first_from f n 0
    = first-position (λ g. lands_on first c.args.t.ncol g) f c.args.krows.now (λ i h. refl) in
    let high : first_from f n 0 ≤ n = omega (arith, (first-is f n 0).high) in
    c.unwrap_or.ensures ∙ rw (found, place) (or-end (first_from f n 0) n high)
