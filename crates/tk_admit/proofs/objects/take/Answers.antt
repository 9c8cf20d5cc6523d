use Rattle.std.proofs.Common.{◌≡◌, Some, None, sym, ap, ◌∙◌, subst}
use Rattle.std.specs.Prelude.{option_and_then}
use Rattle.std.proofs.lemmas.Result.{err_from_is_err_and}
use Rattle.tk_types.specs.Rejected.{IsRefusal}
use Rattle.tk_admit.specs.Measure.{IsMeasureOf}
use Rattle.tk_admit.specs.Objects.{matrix_finding, same_name_finding}
use Rattle.tk_admit.specs.Sound.{IsSound, IsTaken}
use Rattle.tk_admit.specs.Taken.{resolved, taken_of}
use Rattle.tk_admit.specs.declared.measure.Measure.{Measure}
use Rattle.tk_admit.specs.declared.taken.Taken.{Taken}
use Rattle.tk_admit.proofs.Steps.{none_first, refused_first}
use Rattle.tk_admit.proofs.TakenRuns.{taken_matrix, taken_spec}
use Rattle.tk_admit.proofs.objects.take.Goals as goal

pub measure-requires-clause-sound : goal.measure-requires-clause-sound
measure-requires-clause-sound c =
    let before = c.args.before.now in
    let item = c.args.item.now in
    let run = c.in-Some.run' in
    let found : taken_of (before, item) ≡ Some run = ap (λ items. taken_of (items, item)) (sym c.requires.same) ∙ (sym c.in_ok-run.ensures.run ∙ c.in-Some.is) in
    c.taken_is_sound.ensures before item run.spec c.requires.valid c.requires.own (taken_spec before item run found)

pub returns-in_err-measure-clause-refused : goal.returns-in_err-measure-clause-refused
returns-in_err-measure-clause-refused c =
    let before = c.args.before.now in
    let item = c.args.item.now in
    let run = c.in-Some.run' in
    let error = c.in_err-measure.field-0.0 in
    let same = same_name_finding before item in
    let matrix = option_and_then (matrix_finding item.place) (resolved before item.object) in
    let found : taken_of (before, item) ≡ Some run = ap (λ items. taken_of (items, item)) (sym c.requires.same) ∙ (sym c.in_ok-run.ensures.run ∙ c.in-Some.is) in
    let is : matrix_finding run.place run.spec ≡ matrix
    = ap (option_and_then (λ (t : Taken). matrix_finding t.place t.spec)) (sym found) ∙ taken_matrix before item in
    let result = c.from_residual-in_err-measure in
    let p = err_from_is_err_and result.result result.ensures.1 in
    rw (p.1, p.2)
    (subst (λ found. IsRefusal found error) (none_first same _ c.in_ok-check_name.ensures.0)
    (refused_first matrix None error (subst (λ found. IsRefusal found error) is c.in_err-measure.ensures.refused)))

pub returns-clause-taken : goal.returns-clause-taken
returns-clause-taken c = λ x same.
    let before = c.args.before.now in
    let item = c.args.item.now in
    let run = c.in-Some.run' in
    let found : taken_of (before, item) ≡ Some run = ap (λ items. taken_of (items, item)) (sym c.requires.same) ∙ (sym c.in_ok-run.ensures.run ∙ c.in-Some.is) in
    let sound : IsSound run.spec = c.taken_is_sound.ensures before item run.spec c.requires.valid c.requires.own (taken_spec before item run found) in
    let taken : IsTaken run = record { sound = sound; few_children = c.in_ok-measure.ensures.few } in
    let one : (run, c.in_ok-measure.measure) ≡ x = cc in
    subst (λ (r : Taken × Measure). IsTaken r.0 × IsMeasureOf r.0.spec r.1) one (taken, c.in_ok-measure.ensures.measure)
