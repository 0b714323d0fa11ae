-- `panels::one_panel` meets its contract: a panel that stops leaves its refusal; else the rows below and the later columns follow. Assumes nothing.
use mathlib.Core.Path.{◌≡◌, ◌∙◌}
use mathlib.Core.List.{List}
use Prim.Native.Nat.{ℕ, ◌*◌}
use lib.ListN.{take}
use lib.Ieee.{Float}
use Rattle.std.proofs.lemmas.Result.{err_from_is_err_and}
use Rattle.model.specs.Step.{Pivots, recorded_in}
use Rattle.model.specs.Head.{blank}
use Rattle.model.specs.declared.Frame.{Frame}
use Rattle.model.specs.declared.Pivoting.{Pivoting}
use Rattle.bunch_kaufman.specs.Slices.{state}
use Rattle.panels.specs.Turn.{between, turn_of}
use Rattle.panels.proofs.Multipliers.{turn-any}
use Rattle.panels.proofs.Work.{turn_stopped, turn-done}
use Rattle.panels.proofs.one_panel.Goals as goal

-- the multipliers that happen to stand in the working buffer are not read
forgotten : (how : Pivoting) (at : Frame) (panel mult : List Float) (p : Pivots) (rounds : ℕ)
    → turn_of how at.nrow at.ncol at.kb at.ke (state at panel mult p rounds)
    ≡ turn_of how at.nrow at.ncol at.kb at.ke (between at.nrow panel p rounds)
forgotten how at panel mult p rounds = turn-any how at.nrow at.ncol at.kb at.ke (state at panel mult p rounds) blank

pub returns-in_err-rounds-clause-turn : goal.returns-in_err-rounds-clause-turn
returns-in_err-rounds-clause-turn c = let a = c.args in
    let new = c.steps.new in
    let square = a.at.nb * a.at.nb in
    let given = recorded_in a.r.now in
    let left = recorded_in new.r in
    let p = err_from_is_err_and c.from_residual.result c.from_residual.ensures.1 in
    rw (p.1, p.2)
    (turn_stopped a.how a.at.nrow a.at.ncol a.at.kb a.at.ke _ (state a.at new.panel (take square new.work) left)
    (between a.at.nrow new.panel left) (state a.at a.panel.now (take square a.work.now) given a.before) c.in_err-rounds.ensures.run
    ∙ forgotten a.how a.at a.panel.now (take square a.work.now) given a.before)

pub returns-clause-turn : goal.returns-clause-turn
returns-clause-turn c = let a = c.args in
    let new = c.steps.new in
    let square = a.at.nb * a.at.nb in
    let given = recorded_in a.r.now in
    turn-done a.how a.at _ new.panel c.rows_below.new.panel c.later_columns.new.panel (take square new.work) (recorded_in new.r)
    (state a.at a.panel.now (take square a.work.now) given a.before) c.in_ok-rounds.ensures.run c.rows_below.ensures c.later_columns.ensures
    ∙ forgotten a.how a.at a.panel.now (take square a.work.now) given a.before
