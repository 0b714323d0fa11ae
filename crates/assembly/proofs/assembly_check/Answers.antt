-- `assembly::assembly_check` meets its contract: the first of the three checks that refuses is the answer. Assumes nothing.
use mathlib.Core.Path.{sym, ◌∙◌, ap}
use Rattle.std.proofs.lemmas.Result.{err_from_is_err_and}
use Rattle.model.specs.declared.Refusal.TheVariants.{AssemblyNumber}
use Rattle.checks.specs.Finite.{refused_at}
use Rattle.assembly.proofs.Laws.{check-lengths, check-columns, check-places, check-numbers}
use Rattle.assembly.proofs.assembly_check.Goals as goal

pub returns-then-not-entries_sound : goal.returns-then-not-entries_sound
returns-then-not-entries_sound c = search check-lengths

pub first_bad_place-requires : goal.first_bad_place-requires
first_bad_place-requires c = check-columns _ _ _ _ _ c.entries_sound.ensures c.if-not-entries_sound.false

pub returns-in_err-first_bad_place : goal.returns-in_err-first_bad_place
returns-in_err-first_bad_place c =
    let p = err_from_is_err_and c.from_residual.result c.from_residual.ensures.1 in
    rw (p.1, p.2) (sym c.in_err-first_bad_place.was
    ∙ check-places _ _ _ _ _ c.entries_sound.ensures _ c.if-not-entries_sound.false c.first_bad_place.ensures _ c.in_err-first_bad_place.was)

pub returns-in-Some : goal.returns-in-Some
returns-in-Some c =
    sym (ap (refused_at AssemblyNumber) c.in-Some.is)
    ∙ check-numbers _ _ _ _ _ c.entries_sound.ensures _ c.if-not-entries_sound.false c.first_bad_place.ensures _ c.in_ok-first_bad_place.was
    c.first_bad_number.ensures

pub returns-in-None : goal.returns-in-None
returns-in-None c =
    sym (ap (refused_at AssemblyNumber) c.in-None.is)
    ∙ check-numbers _ _ _ _ _ c.entries_sound.ensures _ c.if-not-entries_sound.false c.first_bad_place.ensures _ c.in_ok-first_bad_place.was
    c.first_bad_number.ensures
