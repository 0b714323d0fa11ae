-- What `panels::panels` owes. Assumes nothing.
use mathlib.Core.Path.{◌≡◌}
use Prim.Native.Nat.{◌+◌, ◌≤◌}
use native.Mathlib.Omega.{arith}
use Rattle.std.proofs.lemmas.Result.{err_from_is_err_and}
use Rattle.model.specs.Step.{recorded_in}
use Rattle.model.specs.Factor.{pivoting_of}
use Rattle.model.proofs.Lent.{record-then}
use Rattle.panels.specs.Turn.{between}
use Rattle.panels.proofs.Turns.{run_more, run-stop, run-done, done-leaves}
use Rattle.panels.proofs.panels.Goals as goal

pub returns-in_err-rounds-clause-run : goal.returns-in_err-rounds-clause-run
returns-in_err-rounds-clause-run c = let s = c.args.c in
    let l = c.loop-kb in
    let new = c.one_panel.new in
    let left = between s.nrow new.panel (recorded_in new.r) in
    let p = err_from_is_err_and c.from_residual.result c.from_residual.ensures.1 in
    rw (p.1, p.2)
    (run-stop (pivoting_of s) s.nrow s.ncol s.nb c.requires.run_pre.some l.kb c.panel_end-ke.result (between s.nrow l.panel (recorded_in l.r) l.rounds)
    left left _ _ l.invariant.run c.loop-kb-test.true c.panel_end-ke.ensures c.in_err-rounds.ensures.turn)

-- a panel that is not the last ends where the next begins
pub loop-kb-preserved : goal.loop-kb-preserved
loop-kb-preserved c = let s = c.args.c in
    let l = c.loop-kb in
    let new = c.one_panel.new in
    let full : c.panel_end-ke.result ≡ l.kb + s.nb = omega (arith, c.panel_end-ke.ensures) in
    record {
      inside = omega arith;
      same = record-then _ _ _ l.invariant.same c.one_panel.ensures.same;
      run = rw full at (run_more (pivoting_of s) s.nrow s.ncol s.nb c.requires.run_pre.some l.kb c.panel_end-ke.result _
          (between s.nrow l.panel (recorded_in l.r) l.rounds) (between s.nrow new.panel (recorded_in new.r)) _
          l.invariant.run c.loop-kb-test.true c.panel_end-ke.ensures c.in_ok-rounds.ensures.turn);
      noted = rw full at (done-leaves l.kb _ _ _ c.in_ok-rounds.ensures.ran_to);
    }

pub returns-clause-run : goal.returns-clause-run
returns-clause-run c = let s = c.args.c in
    let l = c.loop-kb in
    run-done (pivoting_of s) s.nrow s.ncol s.nb c.requires.run_pre.some l.kb
    (between s.nrow l.panel (recorded_in l.r) l.rounds) _ l.invariant.run c.loop-kb-test.false

-- the last panel ends with the columns
pub returns-in_ok-rounds-clause-run : goal.returns-in_ok-rounds-clause-run
returns-in_ok-rounds-clause-run c = let s = c.args.c in
    let l = c.loop-kb in
    let new = c.one_panel.new in
    let last : s.ncol ≤ c.panel_end-ke.result = omega (arith, c.panel_end-ke.ensures) in
    run-done (pivoting_of s) s.nrow s.ncol s.nb c.requires.run_pre.some c.panel_end-ke.result _ _
    (run_more (pivoting_of s) s.nrow s.ncol s.nb c.requires.run_pre.some l.kb c.panel_end-ke.result _
    (between s.nrow l.panel (recorded_in l.r) l.rounds) (between s.nrow new.panel (recorded_in new.r)) _
    l.invariant.run c.loop-kb-test.true c.panel_end-ke.ensures c.in_ok-rounds.ensures.turn) last
