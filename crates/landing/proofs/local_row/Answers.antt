-- What `landing::local_row` owes. Assumes nothing.
use mathlib.Core.Path.{◌≡◌, ◌∙◌}
use Prim.Native.Nat.{◌≤◌}
use native.Mathlib.Omega.{arith}
use lib.ListN.{length}
use Rattle.model.specs.Matrix.{naturals}
use Rattle.landing.proofs.Scans.{place-step, place-hit, place_end}
use borrow.Author.Rules.{rules}
use Rattle.landing.proofs.local_row.Goals as goal

pub returns-then-here-g-clause-place : goal.returns-then-here-g-clause-place
unfolding naturals
returns-then-here-g-clause-place c = search place-hit

pub loop-i-preserved : goal.loop-i-preserved
unfolding naturals
loop-i-preserved c = search place-step

pub returns-clause-place : goal.returns-clause-place
returns-clause-place c =
    let past : length c.args.rows.now ≤ c.loop-i.i = search rules in
    let all : length c.args.rows.now ≡ c.loop-i.i = omega arith in
    all ∙ place_end _ _ _ _ _ past c.loop-i.invariant
