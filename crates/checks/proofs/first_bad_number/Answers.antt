-- `checks::first_bad_number` meets its contract: the first number that is not finite stands where the scan stops. Assumes nothing.
use mathlib.Core.Path.{◌∙◌, ap}
use mathlib.Core.Bool.{Bool, not}
use lib.Ieee.{Float}
use Rattle.std.proofs.Common.{rules, tests}
use Rattle.std.proofs.lemmas.Iterator.{YieldsList-from_slice}
use Rattle.std.proofs.lemmas.Iterator.Adapters.{position_from-zero}
use Rattle.std.proofs.lemmas.Iterator.Search.{position_from_yields_List}
use Rattle.model.specs.Scalar.{is_finite}
use Rattle.checks.specs.Finite.{refused_at}
use Rattle.checks.proofs.First.{numbers-scan}
use Rattle.checks.proofs.first_bad_number.Goals as goal

pub returns : goal.returns
returns c at =
    let bad : Float → Bool = λ x. not (is_finite x) in
    let all = YieldsList-from_slice c.args.numbers.now cc in
    let found = position_from_yields_List bad _ _ c.position.result c.position.ensures.ran all (λ x b q k. search (rules, tests)) in
    ap (refused_at at) (found ∙ position_from-zero bad c.args.numbers.now) ∙ numbers-scan at c.args.numbers.now
