-- `factor::eliminate` meets its contract: the buffers as they begin are the start of the run, and the panels are its rest. Assumes nothing.
use mathlib.Core.Path.{refl, ap}
use Prim.Native.Nat.{min, max}
use lib.ListN.{length}
use borrow.Author.Rules.{rules}
use Rattle.model.specs.Matrix.{view}
use Rattle.model.specs.Step.{recorded_in}
use Rattle.model.specs.Factor.{Buffers, lent_in, pivoting_of, start}
use Rattle.panels.specs.Turn.{between}
use Rattle.panels.specs.Run.{run_of}
use Rattle.factor.proofs.Begin.{copy-pre, run-pre, holds-pre, run_is, noted-none, start_is, eliminated-is}
use Rattle.factor.proofs.eliminate.Goals as goal

pub begin-requires : goal.begin-requires
begin-requires c = copy-pre c.args.c c.args.input.now (lent_in c.args.b.now) c.requires

pub panels-requires : goal.panels-requires
panels-requires c = let a = c.args in
    let same = c.begin.ensures.same in
    record {
      run_pre = run-pre a.c a.input.now (lent_in a.b.now) _ _ _ c.requires c.width.ensures same.panel.count same.work.count;
      turn_holds = holds-pre a.c a.input.now a.b.now _ c.requires same.d.count same.sub.count same.blocks.count refl
          same.lifts.count same.amounts.count same.tests.count same.order.count;
      noted_to = noted-none (length a.b.now.blocks.now) _ _ _ _ _ _ _ _ (ap (λ (b : Buffers). b.blocks) c.begin.ensures.begun) refl;
    }

pub returns-clause-eliminated : goal.returns-clause-eliminated
returns-clause-eliminated c = let s = c.args.c in
    let a = c.args in
    let begun = c.begin.new.b in
    let new = c.panels.new in
    let same = c.panels.ensures.same in
    eliminated-is s a.input.now c.panels.result _ new.r
    (run_is (pivoting_of s) s.nrow s.ncol c.width.result (min s.nb (max s.ncol 1))
    (run_of c.panels.result (between s.nrow new.panel (recorded_in new.r))) _ (start s.ncol (view s.nrow a.input.now)) c.width.ensures
    (start_is s a.input.now a.b.now begun _ c.requires c.begin.ensures.begun refl) c.panels.ensures.run)
    (search (rules, same.d.name)) (search (rules, same.sub.name)) (search (rules, same.blocks.name))
    (search (rules, same.lifts.name)) (search (rules, same.amounts.name)) (search (rules, same.tests.name))
    (search (rules, same.order.name))
