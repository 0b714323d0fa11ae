-- `assembly::first_bad_place` meets its contract: the first place that is not sound stands where the scan stops. Assumes nothing.
use mathlib.Core.Path.{◌≡◌, sym, ◌∙◌, ap}
use mathlib.Core.Bool.{Bool, not}
use Prim.Native.Nat.{ℕ}
use lib.ListN.{length}
use Rattle.std.proofs.Common.{rules, tests}
use Rattle.std.specs.List.{zip}
use Rattle.std.proofs.lemmas.Iterator.{YieldsList-from_slice, YieldsList-from_zip}
use Rattle.std.proofs.lemmas.Iterator.Adapters.{position_from-zero}
use Rattle.std.proofs.lemmas.Iterator.Search.{position_from_yields_List}
use Rattle.model.specs.Matrix.{naturals}
use Rattle.model.specs.Assembly.{first_not, place_sound}
use Rattle.model.specs.declared.Refusal.TheVariants.{AssemblyPlace}
use Rattle.checks.specs.Finite.{refused_at}
use Rattle.assembly.proofs.Laws.{lower, places-scan}
use Rattle.assembly.proofs.first_bad_place.Goals.{After-position-at}
use Rattle.assembly.proofs.first_bad_place.Goals as goal

-- what is refused at the place that `position` found is what the scan refuses
scanned : (c : After-position-at) → refused_at AssemblyPlace c.position-at.result
    ≡ first_not (place_sound c.args.ncol c.args.nrow (naturals c.args.es.rows.now) (naturals c.args.es.columns.now)) AssemblyPlace (length c.args.es.rows.now) 0
scanned c =
    let bad : ℕ × ℕ → Bool = λ p. not (lower c.args.ncol c.args.nrow p.0 p.1) in
    let found = position_from_yields_List bad c.position-at.new.self _ c.position-at.result c.position-at.ensures.ran
    (YieldsList-from_zip (YieldsList-from_slice c.args.es.rows.now cc) (YieldsList-from_slice c.args.es.columns.now cc))
    (λ x b q k. search (rules, tests)) in
    ap (refused_at AssemblyPlace) (found ∙ position_from-zero bad (zip c.args.es.rows.now c.args.es.columns.now))
    ∙ places-scan c.args.ncol c.args.nrow c.args.es.rows.now c.args.es.columns.now c.requires

pub returns-in-Some : goal.returns-in-Some
returns-in-Some c = sym (ap (refused_at AssemblyPlace) c.in-Some.is) ∙ scanned (goal.at.returns-in-Some c).After-position-at

pub returns-in-None : goal.returns-in-None
returns-in-None c = sym (ap (refused_at AssemblyPlace) c.in-None.is) ∙ scanned (goal.at.returns-in-None c).After-position-at
